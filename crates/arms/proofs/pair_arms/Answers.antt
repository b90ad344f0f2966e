-- Fifteen branches, each rate with its pair.
use Rattle.std.proofs.Common.{rules}
use Rattle.arms.proofs.Tables.{pairs-stand}
use Rattle.arms.proofs.pair_arms.Goals as goal

pub returns : goal.returns
returns c = pairs-stand c.args.rates c.args.p c.args.q (search rules)
