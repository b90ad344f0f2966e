-- A slice of `len` bytes, written piece after piece from its start. Assumes nothing.
use mathlib.Core.Path.{◌≡◌, refl, sym, ap, ◌∙◌}
use mathlib.Core.List.{List, [], ◌∷◌, ◌++◌}
use Prim.Native.Nat.{ℕ, suc, ◌-◌, ◌<◌, ◌≤◌}
use native.Mathlib.Omega.{arith}
use lib.ListN.{length, take, drop, set, length-append, length-set}
use lib.Seq.{take_all, take_at, length-take-le, set_split, append_snoc}
use borrow.Rule.Slice.PartMut.{put_mid, mid_of, mid_len}
use Rattle.sheet.proofs.Written.{wrote, wrote-length}

-- its first `at` bytes are the text
pub record Begins (len at : ℕ) (text out : List ℕ) : Type 0 where
  pub text_is : take at out ≡ text
  pub long : length out ≡ len

pub nothing_yet : (len : ℕ) (out : List ℕ) → length out ≡ len → Begins len 0 [] out
nothing_yet len out e = record { text_is = refl; long = e }

-- the same place and text, said otherwise
pub as-well : {len at at' : ℕ} {text text' out : List ℕ} → at' ≡ at → text' ≡ text → Begins len at text out → Begins len at' text' out
as-well p q h = record { text_is = rw (p, q) h.text_is; long = h.long }

module _ {len at : ℕ} {text out : List ℕ} (h : Begins len at text out) where
  -- a part that is lent
  pub part-long : (end : ℕ) → end ≤ len → length (mid_of at (end - at) out) ≡ end - at
  part-long end q = mid_len at end out (omega (arith, h.long))

  pub with_part : (end : ℕ) (x : List ℕ) → at ≤ end → end ≤ len → length x ≡ length (mid_of at (end - at) out) → Begins len end (text ++ x) (put_mid at (end - at) out x)
  with_part end x p q k =
      let r : end ≤ length out = omega (arith, h.long) in
      let e : length x ≡ end - at = k ∙ part-long end q in
      record { text_is = wrote at end out x p r e ∙ ap (λ (l : List ℕ). l ++ x) h.text_is; long = wrote-length at end out x r e ∙ h.long }

  -- a byte
  pub with_byte : (b : ℕ) → at < len → Begins len (suc at) (text ++ b ∷ []) (set out at b)
  with_byte b p =
      let r : at < length out = omega (arith, h.long) in
      let t = take at out in
      let e : length (t ++ b ∷ []) ≡ suc at = length-append t (b ∷ []) ∙ (omega (arith, length-take-le at out (omega arith))) in
      record {
        text_is =
            ap (take (suc at)) (set_split out at b r ∙ sym (append_snoc t b (drop (suc at) out)))
            ∙ take_at (t ++ b ∷ []) (drop (suc at) out) (suc at) e
            ∙ ap (λ (l : List ℕ). l ++ b ∷ []) h.text_is;
        long = length-set out at b ∙ h.long;
      }

  -- nothing is left to write
  pub whole : len ≤ at → out ≡ text
  whole p = sym (take_all at out (omega (arith, h.long))) ∙ h.text_is
