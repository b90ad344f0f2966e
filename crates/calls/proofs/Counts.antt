-- Sums of counts, compared and capped. Assumes nothing.
use mathlib.Core.Path.{◌≡◌, refl, sym}
use mathlib.Core.Bool.{Bool, true, false}
use Prim.Native.Nat.{ℕ, ◌+◌, ◌-◌, ◌^◌, ◌≤◌, ◌<◌}
use native.Mathlib.Omega.{arith}
use lib.Dec.{ltb}
use borrow.Author.Tests.{ltb-true, ltb-false, lt-ltb, le-ltb, le-leb, lt-leb}
use Rattle.calls.specs.Outgrown.{capped_sum}

module _ (a b s : ℕ) where
  shifted : b ≤ a → (t : Bool) → ltb (a - b) s ≡ t → t ≡ ltb a (b + s)
  shifted h true e = sym (lt-ltb a (b + s) (omega (arith, ltb-true (a - b) s e)))
  shifted h false e = sym (le-ltb a (b + s) (omega (arith, ltb-false (a - b) s e)))

  -- a is below b + s: by its difference from b, or because it is below b
  pub less-than-sum : b ≤ a → ltb (a - b) s ≡ ltb a (b + s)
  less-than-sum h = shifted h (ltb (a - b) s) refl

  pub less-than-part : a < b → true ≡ ltb a (b + s)
  less-than-part h = sym (lt-ltb a (b + s) (omega arith))

module _ (a b : ℕ) where
  pub sum_fits : a + b ≤ 2 ^ 64 - 1 → a + b ≡ capped_sum a b
  unfolding capped_sum
  sum_fits h = rw (le-leb (a + b) (2 ^ 64 - 1) h)

  pub sum-capped : 2 ^ 64 - 1 < a + b → 2 ^ 64 - 1 ≡ capped_sum a b
  unfolding capped_sum
  sum-capped h = rw (lt-leb (a + b) (2 ^ 64 - 1) h)
