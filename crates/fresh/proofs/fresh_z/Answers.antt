use Rattle.std.proofs.Common.{ap, ◌∙◌, arith}
use Rattle.model.specs.Entries.{Row}
use Rattle.fresh.proofs.Rows.{one_shl, x-row, z-row}
use Rattle.fresh.proofs.fresh_z.Goals as goal

pub returns-then-r-n : goal.returns-then-r-n
returns-then-r-n c = ap (λ (q : Row). q.z) (x-row _ _ c.if-r-n.true)

pub returns-else-r-n : goal.returns-else-r-n
returns-else-r-n c = one_shl _ (omega arith) ∙ ap (λ (q : Row). q.z) (z-row _ _ c.if-r-n.false)
