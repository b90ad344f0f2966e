use Rattle.std.proofs.Common.{refl, arith}
use Rattle.changes.proofs.ChangeTables.{masks-none, masks-more}
use Rattle.changes.proofs.sign_masks.Goals as goal

pub loop-i-init : goal.loop-i-init
loop-i-init c = masks-none _ _ refl

pub loop-i-preserved : goal.loop-i-preserved
loop-i-preserved c = masks-more _ c.loop-i.i (omega arith) c.row_mask.ensures c.loop-i.invariant
