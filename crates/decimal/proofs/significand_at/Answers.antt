use mathlib.Core.Path.{◌≡◌, sym, ◌∙◌}
use Prim.Native.Nat.{◌+◌, ◌≤◌}
use native.Mathlib.Omega.{arith}
use Rattle.decimal.specs.Digits.{byte_at}
use Rattle.decimal.specs.Decimals.{point}
use Rattle.decimal.proofs.Parts.{run_end-is, no-point, with-point}
use Rattle.decimal.proofs.significand_at.Goals as goal

pub overflow_sub-result : goal.overflow_sub-result
overflow_sub-result c =
    -- the digits before the point
    let starts : c.args.from ≤ c.digits_at-whole.result.end = let a = c.args in
    omega (arith, run_end-is a.text.now a.from 0 c.digits_at-whole.result c.digits_at-whole.ensures) in
    starts

pub returns-then-byte_at-ne46 : goal.returns-then-byte_at-ne46
returns-then-byte_at-ne46 c =
    let a = c.args in
    no-point a.text.now a.from c.digits_at-whole.result c.digits_at-whole.ensures (λ z. c.if-byte_at-ne46.true (c.byte_at.ensures ∙ z))

pub overflow_sub-after : goal.overflow_sub-after
overflow_sub-after c =
    let a = c.args in
    let r = c.digits_at-fraction in
    omega (arith, run_end-is a.text.now (c.digits_at-whole.result.end + 1) c.digits_at-whole.result.value r.result r.ensures)

pub overflow_sub-result-2 : goal.overflow_sub-result-2
overflow_sub-result-2 c =
    -- the digits before the point
    let starts : c.args.from ≤ c.digits_at-whole.result.end = let a = c.args in
    omega (arith, run_end-is a.text.now a.from 0 c.digits_at-whole.result c.digits_at-whole.ensures) in
    starts

pub returns : goal.returns
returns c =
    -- a point stands past them
    let points : byte_at c.args.text.now c.digits_at-whole.result.end ≡ point = sym c.byte_at.ensures ∙ c.if-byte_at-ne46.false in
    let a = c.args in
    let r = c.digits_at-fraction in
    with-point a.text.now a.from c.digits_at-whole.result c.digits_at-whole.ensures points r.result r.ensures
