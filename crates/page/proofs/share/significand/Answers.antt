use borrow.Author.Tests.{ne_eqb}
use Rattle.model.specs.Page.{significand}
use Rattle.page.proofs.share.significand.Goals as goal

pub returns-then-exponent_bits-eq0 : goal.returns-then-exponent_bits-eq0
unfolding significand
returns-then-exponent_bits-eq0 c = rw (← c.exponent_bits.ensures, c.if-exponent_bits-eq0.true)

pub returns-else-exponent_bits-eq0 : goal.returns-else-exponent_bits-eq0
unfolding significand
returns-else-exponent_bits-eq0 c = rw (← c.exponent_bits.ensures, ne_eqb c.exponent_bits.result 0 c.if-exponent_bits-eq0.false)
