use borrow.Author.Tests.{ne_eqb}
use Rattle.decimal.specs.Decimals.{is_exponent}
use Rattle.decimal.proofs.is_exponent.Goals as goal

pub returns-then-b-eq101 : goal.returns-then-b-eq101
unfolding is_exponent
returns-then-b-eq101 c = rw c.if-b-eq101.true

pub returns-else-b-eq101 : goal.returns-else-b-eq101
unfolding is_exponent
returns-else-b-eq101 c = rw (ne_eqb _ _ c.if-b-eq101.false)
