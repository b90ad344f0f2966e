-- Fifteen branches of one rate.
use Rattle.arms.proofs.Tables.{parts-stand}
use Rattle.arms.proofs.depolarize2_arms.Goals as goal

pub returns : goal.returns
returns c = parts-stand c.args.rate c.args.p c.args.q
