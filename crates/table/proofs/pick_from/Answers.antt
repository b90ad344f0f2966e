use mathlib.Core.Path.{sym, ap, ◌∙◌}
use native.Mathlib.Omega.{arith}
use Rattle.model.specs.Floats.{plus}
use Rattle.table.proofs.Totals.{stops, goes_on, the_last}
use Rattle.table.proofs.pick_from.Goals as goal

pub returns-then-draw-total : goal.returns-then-draw-total
returns-then-draw-total c =
    let l = c.loop-i in
    let a = c.args in
    sym (stops a.draw a.m a.order.now l.i l.last l.total _ c.loop-i-test.true (ap (plus l.total) c.float_of-total.ensures) c.if-draw-total.true) ∙ l.invariant

pub loop-i-preserved : goal.loop-i-preserved
loop-i-preserved c =
    let l = c.loop-i in
    let a = c.args in
    sym (goes_on a.draw a.m a.order.now l.i l.last l.total _ c.loop-i-test.true (ap (plus l.total) c.float_of-total.ensures) c.if-draw-total.false) ∙ l.invariant

pub returns : goal.returns
returns c =
    let l = c.loop-i in
    let a = c.args in
    sym (the_last a.draw a.m a.order.now l.i l.last l.total (omega arith)) ∙ l.invariant
