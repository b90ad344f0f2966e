-- A slice of which first a front part is lent and comes back, then all that follows it: the two parts are the whole. Assumes nothing.
use mathlib.Core.Path.{◌≡◌, ap, ap₂, ◌∙◌}
use mathlib.Core.List.{List, ◌++◌, append-nil}
use Prim.Native.Nat.{ℕ, ◌-◌}
use native.Mathlib.Omega.{arith}
use lib.ListN.{length, take, drop, length-drop, drop_of_length-le}
use lib.Seq.{take_at, drop_at}
use borrow.Rule.Slice.PartMut.{put_mid}
use Rattle.model.proofs.Entries.{part-tail}

-- the part from a on
tail-put : (a : ℕ) (w new : List ℕ) → put_mid a (length w - a) w new ≡ take a w ++ new
tail-put a w new =
    let past = drop_of_length-le (drop a w) {i = length w - a} (omega (arith, length-drop a w)) in
    ap (λ (x : List ℕ). take a w ++ x) (ap (λ (x : List ℕ). new ++ x) past ∙ append-nil new)

module _ (a : ℕ) (w front : List ℕ) (l : length front ≡ a) where
  -- what follows a front part of a words is lent as it was
  pub rest-long : length (take (length (front ++ drop a w) - a) (drop a (front ++ drop a w))) ≡ length w - a
  rest-long = ap length (part-tail a (front ++ drop a w) ∙ drop_at front (drop a w) a l) ∙ length-drop a w

  pub both-put : {rest f r : List ℕ} → front ≡ f → rest ≡ r → put_mid a (length (front ++ drop a w) - a) (front ++ drop a w) rest ≡ f ++ r
  both-put {rest} p q = tail-put a (front ++ drop a w) rest ∙ ap₂ (λ (x y : List ℕ). x ++ y) (take_at front (drop a w) a l ∙ p) q
