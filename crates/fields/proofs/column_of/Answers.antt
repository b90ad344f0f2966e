use borrow.Author.Tests.{eq-eqb, ne_eqb}
use Rattle.fields.specs.Read.{column}
use Rattle.fields.proofs.column_of.Goals as goal

pub returns-then-v-eq0 : goal.returns-then-v-eq0
unfolding column
returns-then-v-eq0 c = rw (eq-eqb _ _ c.if-v-eq0.true)

pub returns-else-v-eq0 : goal.returns-else-v-eq0
unfolding column
returns-else-v-eq0 c = rw (ne_eqb _ _ c.if-v-eq0.false)
