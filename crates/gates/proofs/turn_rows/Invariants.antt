-- The loop's invariant: the rows passed are turned, and the others as they were.
use Rattle.std.proofs.Common.{◌≡◌, ◌*◌}
use Rattle.model.specs.Gates.{turned_row}
use Rattle.gates.proofs.Rows.{so_far}
use Rattle.gates.proofs.turn_rows.Given as goal

abbrev pub invariant-loop-i : goal.invariant-loop-i
invariant-loop-i l = l.rows ≡ so_far (turned_row l.gate) l.initial.rows (2 * l.i)
