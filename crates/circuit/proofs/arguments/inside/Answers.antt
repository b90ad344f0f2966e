use Rattle.std.proofs.Common.{◌≡◌, ◌∙◌, ◌-◌, ◌+◌, Ok, Err, arith}
use Rattle.std.proofs.lemmas.Result.{err_from_is_err_and}
use Rattle.circuit.specs.Arguments.{counted, arguments_left}
use Rattle.circuit.proofs.Reading.{by_first}
use Rattle.circuit.proofs.arguments.inside.Goals as goal

pub returns-in_err-value-clause-is : goal.returns-in_err-value-clause-is
unfolding counted
returns-in_err-value-clause-is c =
    let l = c.loop-i in
    let p = err_from_is_err_and c.from_residual.result c.from_residual.ensures.1 in
    rw (p.1, p.2)
    (by_first c.args.line.now l.rates l.i l.to (15 - (l.i + 1)) (15 - l.i) (omega arith) (Err c.in_err-value.field-0.0) c.in_err-value.ensures.is
    ∙ l.invariant.left)

pub returns-then-not-more-clause-is : goal.returns-then-not-more-clause-is
unfolding counted
returns-then-not-more-clause-is c =
    let l = c.loop-i in
    let e = by_first c.args.line.now l.rates l.i l.to (15 - (l.i + 1)) (15 - l.i) (omega arith) (Ok c.in_ok-value.field-0) c.in_ok-value.ensures.is in
    (rw c.if-not-more.true at e) ∙ l.invariant.left

pub loop-i-preserved : goal.loop-i-preserved
unfolding counted
loop-i-preserved c =
    let l = c.loop-i in
    let w = c.in_ok-value.ensures.within in
    let e = by_first c.args.line.now l.rates l.i l.to (15 - (l.i + 1)) (15 - l.i) (omega arith) (Ok c.in_ok-value.field-0) c.in_ok-value.ensures.is in
    record { onward = omega arith; within = omega arith; left = (rw c.if-not-more.false at e) ∙ l.invariant.left }

pub returns-clause-is : goal.returns-clause-is
unfolding arguments_left
returns-clause-is c =
    let e : 15 - c.loop-i.i ≡ 0 = omega arith in
    (rw e at c.loop-i.invariant.left)
