use Rattle.std.proofs.Common.{arith}
use Rattle.model.specs.Calls.{fresh_row}
use Rattle.fresh.proofs.Rows.{no-phase, row_written}
use Rattle.fresh.proofs.fresh_rows.Goals as goal

pub loop-r-preserved : goal.loop-r-preserved
loop-r-preserved c =
    row_written (fresh_row c.args.n) c.loop-r.r c.fresh_x-x.result c.fresh_z-z.result 0 c.loop-r.rows (omega arith) c.fresh_x-x.ensures c.fresh_z-z.ensures (no-phase c.args.n c.loop-r.r) c.loop-r.invariant
