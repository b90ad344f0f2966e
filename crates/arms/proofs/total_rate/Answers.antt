use Rattle.arms.proofs.Tables.{total-next}
use Rattle.arms.proofs.total_rate.Goals as goal

pub loop-a-preserved : goal.loop-a-preserved
loop-a-preserved c = total-next c.args.arms c.loop-a.a c.loop-a.t c.loop-a.invariant
