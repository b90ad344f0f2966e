-- The loop's invariant: the first `left` entries, and after them what is kept of the entries from i on, are what is kept of all; and so with
-- the weights that go.
use Rattle.std.proofs.Common.{◌≤◌}
use Rattle.weights.proofs.Kept.{Keeping}
use Rattle.weights.proofs.keep_above.Given as goal

abbrev pub invariant-loop-i : goal.invariant-loop-i
invariant-loop-i l = (l.left ≤ l.i) × Keeping l.cutoff l.size l.count l.initial.store l.left l.taken l.i l.store
