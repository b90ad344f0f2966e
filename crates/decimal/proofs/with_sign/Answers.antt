use Rattle.decimal.specs.Decimals.{signed}
use Rattle.decimal.proofs.with_sign.Goals as goal

pub returns-then-negative : goal.returns-then-negative
unfolding signed
returns-then-negative c = rw c.if-negative.true

pub returns-else-negative : goal.returns-else-negative
unfolding signed
returns-else-negative c = rw c.if-negative.false
