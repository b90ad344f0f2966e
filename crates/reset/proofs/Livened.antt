-- The reset's test of its qubit, and what it leaves. Assumes nothing.
use mathlib.Core.Path.{◌≡◌, refl, sym, ◌∙◌}
use mathlib.Core.List.{[], ◌∷◌}
use Prim.Native.Nat.{ℕ, ◌<◌}
use native.Mathlib.Omega.{arith}
use lib.Dec.{leb}
use borrow.Author.Tests.{leb-false}
use Rattle.model.specs.Numbers.{gives, first_of}
use Rattle.model.specs.Calls.{Lent, reset, argument_tests, front}
use Rattle.model.proofs.Sound.{front-sound}
use Rattle.model.proofs.Steps.{not-applies, front-passed}
use Rattle.reset.specs.Tests.{MayReset}

module _ (x : Lent) (q : ℕ) where
  -- 3: the qubit is not below n
  pub own_is : first_of (gives 3 (leb x.header.size.n q) ∷ []) ≡ first_of (argument_tests (reset q) x.header.size x.header.count)
  unfolding argument_tests
  own_is = refl

  pub fit : (own : ℕ) → own ≡ first_of (gives 3 (leb x.header.size.n q) ∷ []) → front own x ≡ 0 → MayReset x q
  fit own e z =
      let s = front-sound x own z in
      let below : q < x.header.size.n = leb-false x.header.size.n q (not-applies 3 _ (λ k. omega arith) (sym e ∙ (front-passed own x z).own-0)) in
      record { sound = s; qubit = omega (arith, below, s.packed.sized.qubits.high) }
