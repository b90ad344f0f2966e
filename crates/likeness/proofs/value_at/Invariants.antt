-- The loop's invariant: none of the coefficients read so far is a hit.
use Rattle.std.proofs.Common.{◌-◌, ◌≤◌}
use Rattle.likeness.specs.Walk.{Passed}
use Rattle.likeness.proofs.value_at.Given as goal

abbrev pub invariant-loop-read : goal.invariant-loop-read
invariant-loop-read l = (l.read ≤ l.count) × Passed l.coefs l.index l.count l.read

abbrev pub decreases-loop-read : goal.decreases-loop-read
decreases-loop-read l = l.count - l.read
