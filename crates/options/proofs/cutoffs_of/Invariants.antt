-- The next cutoff begins in the list.
use Rattle.std.proofs.Common.{◌≤◌, length}
use Rattle.options.proofs.cutoffs_of.Given as goal

abbrev pub invariant-loop-i : goal.invariant-loop-i
invariant-loop-i l = l.at ≤ length l.list
