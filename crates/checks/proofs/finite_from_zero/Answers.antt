use Rattle.std.proofs.Common.{rules}
use Rattle.model.specs.Floats.{finite_from_zero}
use Rattle.checks.proofs.Words.{finite-below}
use Rattle.checks.proofs.finite_from_zero.Goals as goal

pub returns-then-x : goal.returns-then-x
unfolding finite_from_zero
returns-then-x c = rw c.if-x.true (finite-below c.args.x c.if-x.true)

pub returns-else-x : goal.returns-else-x
unfolding finite_from_zero
returns-else-x c = search rules
