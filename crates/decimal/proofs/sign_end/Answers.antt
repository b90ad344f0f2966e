use mathlib.Core.Path.{◌≡◌, refl, sym, ap, ◌∙◌}
use native.Mathlib.Omega.{arith}
use Rattle.decimal.specs.Digits.{byte_at}
use Rattle.decimal.specs.Decimals.{is_sign, sign_end}
use Rattle.decimal.proofs.Ends.{inside}
use Rattle.decimal.proofs.sign_end.Goals as goal

pub overflow_add-result : goal.overflow_add-result
unfolding is_sign
overflow_add-result c =
    -- what was found of the byte
    let found : is_sign (byte_at c.args.text.now c.args.at) ≡ c.is_sign.result = ap is_sign (sym c.byte_at.ensures) ∙ sym c.is_sign.ensures in
    let a = c.args in
    omega (arith, inside a.text.now a.at is_sign refl (found ∙ c.if-is_sign.true))

pub returns-then-is_sign : goal.returns-then-is_sign
unfolding sign_end
returns-then-is_sign c =
    -- what was found of the byte
    let found : is_sign (byte_at c.args.text.now c.args.at) ≡ c.is_sign.result = ap is_sign (sym c.byte_at.ensures) ∙ sym c.is_sign.ensures in
    sym (rw (found ∙ c.if-is_sign.true))

pub returns-else-is_sign : goal.returns-else-is_sign
unfolding sign_end
returns-else-is_sign c =
    let found : is_sign (byte_at c.args.text.now c.args.at) ≡ c.is_sign.result = ap is_sign (sym c.byte_at.ensures) ∙ sym c.is_sign.ensures in
    sym (rw (found ∙ c.if-is_sign.false))
