-- What the tests in front of a channel leave. Assumes nothing.
use Rattle.std.specs.Prelude.{◌≤◌, ◌≡◌, true}
use Rattle.model.specs.Floats.{finite_from_zero}
use Rattle.model.specs.Calls.{Lent}
use Rattle.model.specs.Sound.{Sound}
use Rattle.arms.specs.Arms.{ShapeBelow}
use Rattle.arms.specs.declared.Arms.{Arms}

-- what a channel asks of a sum and of its branches
pub record MayRun (x : Lent) (r : Arms) : Type 0 where
  pub sound : Sound x.header.size x.header.count x.words
  pub cutoff : finite_from_zero x.header.cutoff ≡ true
  pub qubits : ShapeBelow 64 r.shape
  pub few : r.count ≤ 15
