-- What the tests in front of a reset leave. Assumes nothing.
use Rattle.std.specs.Prelude.{ℕ, ◌<◌}
use Rattle.model.specs.Calls.{Lent}
use Rattle.model.specs.Sound.{Sound}

-- what a reset asks of a sum and of its qubit
pub record MayReset (x : Lent) (q : ℕ) : Type 0 where
  pub sound : Sound x.header.size x.header.count x.words
  pub qubit : q < 64
