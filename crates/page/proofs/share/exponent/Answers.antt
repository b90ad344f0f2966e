use native.Mathlib.Omega.{arith}
use mathlib.Core.Bool.{Bool, true, false, cond}
use mathlib.Core.Path.{◌≡◌, refl, ◌∙◌}
use Prim.Native.Nat.{ℕ, max}
use lib.Dec.{eqb}
use borrow.Author.Tests.{eqb-true, eqb-false}
use Rattle.model.specs.Page.{exponent, exponent_bits}
use Rattle.page.proofs.share.exponent.Goals as goal

larger : (b : ℕ) → max b 1 ≡ cond (eqb b 0) 1 b
larger b = go (eqb b 0) refl
  where
    go : (t : Bool) → eqb b 0 ≡ t → max b 1 ≡ cond t 1 b
    go true e = omega (arith, eqb-true b 0 e)
    go false e = omega (arith, eqb-false b 0 e)

pub returns : goal.returns
unfolding exponent
returns c = c.max.ensures ∙ rw c.exponent_bits.ensures (larger (exponent_bits c.args.weight))
