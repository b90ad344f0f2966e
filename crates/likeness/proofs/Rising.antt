-- Where indices rise, coefficient j is the only one with its index: the hit of a lookup. Assumes nothing.
use mathlib.Core.Path.{◌≡◌, refl}
use mathlib.Core.Bool.{true}
use mathlib.Core.List.{List}
use mathlib.Core.Logic.{⊎_elim}
use Prim.Native.Nat.{ℕ, zero, suc, ◌+◌, ◌-◌, ◌<◌}
use native.Mathlib.Nat.{eq-or-lt_of_le, le_of_suc-le-suc, not-suc-le-zero}
use native.Mathlib.Numerals.{add-one}
use native.Mathlib.Omega.{arith}
use lib.Dec.{ltb}
use borrow.Author.Tests.{ltb-true}
use Rattle.model.specs.Entries.{index_at}
use Rattle.model.specs.Likeness.{Hit}
use Rattle.model.proofs.Lists.{all-at}
use Rattle.likeness.specs.Rising.{rising}

module _ (coefs : List ℕ) (count : ℕ) (h : rising coefs count ≡ true) where
  next : (j : ℕ) → suc j < count → index_at coefs j < index_at coefs (suc j)
  unfolding rising
  next j l =
      rw (add-one j) at (ltb-true (index_at coefs j) (index_at coefs (j + 1)) (all-at (λ i. ltb (index_at coefs i) (index_at coefs (i + 1))) (count - 1) j h (omega arith)))

  below : (j k : ℕ) → j < k → k < count → index_at coefs j < index_at coefs k
  below j zero l m = absurd (not-suc-le-zero l)
  below j (suc k) l m =
      ⊎_elim (λ (e : j ≡ k). rw e (next k m)) (λ (w : j < k). omega (arith, below j k w (omega arith), next k m)) (eq-or-lt_of_le (le_of_suc-le-suc l))

  pub hit-rising : (j : ℕ) → j < count → Hit coefs (index_at coefs j) count j
  hit-rising j l = record { counted = l; index = refl; first = λ k a b e. absurd (omega (arith, e, below j k a b)) }
