-- The invariant: the first i rows have their masks.
use Rattle.keys.proofs.Tables.{Filled}
use Rattle.keys.proofs.phase_masks.Given as goal

abbrev pub invariant-loop-i : goal.invariant-loop-i
invariant-loop-i l = Filled l.salts l.i l.table
