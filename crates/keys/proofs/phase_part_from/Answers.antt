use Rattle.std.proofs.Common.{arith}
use Rattle.keys.proofs.Tables.{picked_next}
use Rattle.keys.proofs.phase_part_from.Goals as goal

pub loop-i-preserved : goal.loop-i-preserved
loop-i-preserved c = picked_next c.args.table.now c.args.rows.now c.args.m c.loop-i.i (omega arith) c.loop-i.invariant
