-- 1075 places less those that the exponent gives back are cut off in two steps, 32 and the rest.
use mathlib.Core.Path.{◌≡◌, sym, ap, ◌∙◌}
use Prim.Native.Nat.{ℕ, ◌+◌, ◌-◌, ◌*◌, ◌/◌, ◌^◌, ◌≤◌}
use native.Mathlib.Nat.{mul-div-mul_right}
use native.Mathlib.Omega.{arith}
use lib.Pow.{pow-add, pow_pos, shr-shr}
use Rattle.model.specs.Page.{significand, exponent, share}
use Rattle.model.proofs.Page.{exponent_small}
use Rattle.page.proofs.share.share.Goals as goal

cut_twice : (p e : ℕ) → e ≤ 1033 → p / 2 ^ 32 / 2 ^ (1043 - e) ≡ p * 2 ^ e / 2 ^ 1075
cut_twice p e h =
    let s : 32 + (1043 - e) + e ≡ 1075 = omega arith in
    shr-shr p 32 (1043 - e)
    ∙ sym (mul-div-mul_right p (2 ^ (32 + (1043 - e))) (pow_pos e))
    ∙ ap (λ (z : ℕ). p * 2 ^ e / z) (sym (pow-add 2 (32 + (1043 - e)) e) ∙ ap (λ (z : ℕ). 2 ^ z) s)

pub overflow_sub-exponent : goal.overflow_sub-exponent
overflow_sub-exponent c = omega (arith, c.exponent.ensures, exponent_small c.args.weight c.requires)

pub returns : goal.returns
unfolding share
returns c =
    let w = c.args.weight in
    rw (c.cut.ensures, c.product.ensures, c.significand.ensures, c.exponent.ensures) (cut_twice (1000000 * significand w) (exponent w) (exponent_small w c.requires))
