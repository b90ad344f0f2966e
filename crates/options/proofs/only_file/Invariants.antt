-- Each turn goes on in the arguments.
use Rattle.std.proofs.Common.{◌-◌, ◌≤◌}
use Rattle.options.proofs.only_file.Given as goal

abbrev pub invariant-loop-i : goal.invariant-loop-i
invariant-loop-i g l = (1 ≤ l.i) × (l.n ≤ 65536)

abbrev pub decreases-loop-i : goal.decreases-loop-i
decreases-loop-i g l = 65538 - l.i
