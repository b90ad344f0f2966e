use mathlib.Core.Path.{ap}
use native.Mathlib.Omega.{arith}
use Rattle.model.specs.Floats.{plus}
use Rattle.table.proofs.Totals.{next-total, all-totals}
use Rattle.table.proofs.put_totals.Goals as goal

pub loop-i-preserved : goal.loop-i-preserved
loop-i-preserved c =
    let l = c.loop-i in
    let u = plus l.total c.float_of-total.result in
    rw c.bits_of.ensures (next-total l.invariant c.loop-i-test.true u (ap (plus l.total) c.float_of-total.ensures))

pub returns : goal.returns
returns c = all-totals c.loop-i.invariant (omega arith)
