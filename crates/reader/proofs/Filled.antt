-- A slice filled piece by piece, from the front: each piece is lent and comes back written. Assumes nothing.
use mathlib.Core.Path.{◌≡◌, refl, sym, ap, ◌∙◌}
use mathlib.Core.List.{List, [], ◌++◌, append_assoc}
use Prim.Native.Nat.{ℕ, ◌-◌, ◌≤◌}
use native.Mathlib.Omega.{arith}
use lib.ListN.{length, take, length-append}
use lib.Seq.{take_at, take_all, length-take-le}
use borrow.Rule.Slice.PartMut.{put_mid, mid_of, mid_len, same_len_mid}

-- a slice of `len` words whose first `at` are these
pub record Filled (len at : ℕ) (begin w : List ℕ) : Type 0 where
  pub long : length w ≡ len
  pub front : take at w ≡ begin

-- nothing is written yet
pub begun : (w : List ℕ) → Filled (length w) 0 [] w
begun w = record { long = refl; front = refl }

module _ {len at : ℕ} {front w : List ℕ} (f : Filled len at front w) where
  -- one piece more
  pub more : (end : ℕ) (x : List ℕ) → at ≤ end → end ≤ len → length x ≡ length (mid_of at (end - at) w) → Filled len end (front ++ x) (put_mid at (end - at) w x)
  more end x p q e =
      let l = f.long in
      let k : length x ≡ end - at = e ∙ mid_len at end w (omega arith) in
      let t : length (take at w) ≡ at = length-take-le at w (omega arith) in
      let n : length (take at w ++ x) ≡ end = length-append (take at w) x ∙ (omega arith) in
      record {
        long = same_len_mid at (end - at) w x e ∙ f.long;
        front =
            ap (take end) (sym (append_assoc (take at w) x _))
            ∙ take_at (take at w ++ x) _ end n
            ∙ ap (λ (y : List ℕ). y ++ x) f.front;
      }

  -- all is written
  pub whole : len ≤ at → w ≡ front
  whole p = let l = f.long in sym (take_all at w (omega arith)) ∙ f.front

-- a front part that came back written, read again
module _ (x rest : List ℕ) (len : ℕ) (l : length x ≡ len) where
  pub front_fits : len ≤ length (x ++ rest)
  front_fits = omega (arith, length-append x rest)

  pub front_read : take (len - 0) (x ++ rest) ≡ x
  front_read = take_at x rest (len - 0) (omega arith)
