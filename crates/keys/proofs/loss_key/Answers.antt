use Rattle.keys.proofs.Tables.{none-lost}
use Rattle.keys.proofs.loss_key.Goals as goal

pub returns-then-loss-eq0 : goal.returns-then-loss-eq0
returns-then-loss-eq0 c = none-lost c.args.salts.loss c.args.n c.args.loss c.if-loss-eq0.true
