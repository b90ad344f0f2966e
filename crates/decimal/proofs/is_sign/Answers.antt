use borrow.Author.Tests.{ne_eqb}
use Rattle.decimal.specs.Decimals.{is_sign}
use Rattle.decimal.proofs.is_sign.Goals as goal

pub returns-then-b-eq43 : goal.returns-then-b-eq43
unfolding is_sign
returns-then-b-eq43 c = rw c.if-b-eq43.true

pub returns-else-b-eq43 : goal.returns-else-b-eq43
unfolding is_sign
returns-else-b-eq43 c = rw (ne_eqb _ _ c.if-b-eq43.false)
