use mathlib.Core.Path.{◌≡◌, refl, sym, ap, ◌∙◌}
use mathlib.Core.Bool.{true}
use native.Mathlib.Omega.{arith}
use Rattle.decimal.specs.Digits.{byte_at}
use Rattle.decimal.specs.Decimals.{is_exponent}
use Rattle.decimal.proofs.Ends.{inside}
use Rattle.decimal.proofs.Parts.{no-exponent, no-exponent-digit, exponent-read}
use Rattle.decimal.proofs.exponent_at.Goals as goal

pub returns-then-not-is_exponent : goal.returns-then-not-is_exponent
returns-then-not-is_exponent c =
    -- what was found of the byte
    let found : is_exponent (byte_at c.args.text.now c.args.at) ≡ c.is_exponent.result = ap is_exponent (sym c.byte_at.ensures) ∙ sym c.is_exponent.ensures in
    let a = c.args in
    no-exponent a.text.now a.at (found ∙ c.if-not-is_exponent.true)

pub overflow_add-sign : goal.overflow_add-sign
unfolding is_exponent
overflow_add-sign c =
    -- what was found of the byte
    let found : is_exponent (byte_at c.args.text.now c.args.at) ≡ c.is_exponent.result = ap is_exponent (sym c.byte_at.ensures) ∙ sym c.is_exponent.ensures in
    let begins : is_exponent (byte_at c.args.text.now c.args.at) ≡ true = found ∙ c.if-not-is_exponent.false in
    let a = c.args in
    omega (arith, inside a.text.now a.at is_exponent refl begins)

pub returns-then-run-start : goal.returns-then-run-start
returns-then-run-start c =
    -- what was found of the byte
    let found : is_exponent (byte_at c.args.text.now c.args.at) ≡ c.is_exponent.result = ap is_exponent (sym c.byte_at.ensures) ∙ sym c.is_exponent.ensures in
    let begins : is_exponent (byte_at c.args.text.now c.args.at) ≡ true = found ∙ c.if-not-is_exponent.false in
    let a = c.args in
    no-exponent-digit a.text.now a.at begins c.sign_end-start.result c.sign_end-start.ensures c.digits_at-run.result c.digits_at-run.ensures c.if-run-start.true

pub returns : goal.returns
returns c =
    -- what was found of the byte
    let found : is_exponent (byte_at c.args.text.now c.args.at) ≡ c.is_exponent.result = ap is_exponent (sym c.byte_at.ensures) ∙ sym c.is_exponent.ensures in
    let begins : is_exponent (byte_at c.args.text.now c.args.at) ≡ true = found ∙ c.if-not-is_exponent.false in
    let a = c.args in
    rw c.byte_at-2.ensures
    (exponent-read a.text.now a.at begins c.sign_end-start.result c.sign_end-start.ensures c.digits_at-run.result c.digits_at-run.ensures c.if-run-start.false)
