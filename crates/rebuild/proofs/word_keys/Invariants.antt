-- The loops' invariant: the first keys, below i and below j, are worked out.
use Rattle.std.proofs.Common.{◌≤◌, ◌-◌}
use Rattle.rebuild.specs.Saved.{word_key_at}
use Rattle.rebuild.proofs.Worked.{Worked}
use Rattle.rebuild.proofs.word_keys.Given as goal

abbrev pub invariant-loop-i : goal.invariant-loop-i
invariant-loop-i l = (l.i ≤ l.count) × Worked (word_key_at l.size l.store) l.i l.found

abbrev pub decreases-loop-i : goal.decreases-loop-i
decreases-loop-i l = l.count - l.i

abbrev pub invariant-loop-j : goal.invariant-loop-j
invariant-loop-j l = Worked (word_key_at l.size l.store) l.j l.found
