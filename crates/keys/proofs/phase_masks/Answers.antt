use Rattle.std.proofs.Common.{arith}
use Rattle.keys.proofs.Tables.{filled_none, filled_next}
use Rattle.keys.proofs.phase_masks.Goals as goal

pub loop-i-init : goal.loop-i-init
loop-i-init c = filled_none _

pub loop-i-preserved : goal.loop-i-preserved
loop-i-preserved c = rw (c.row_mask-imag.ensures, c.row_mask-sign.ensures) (filled_next c.args.salts c.loop-i.i c.loop-i.table (omega arith) c.loop-i.invariant)
