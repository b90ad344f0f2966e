-- The invariant: h is the phase part of the rows below i.
use Rattle.std.proofs.Common.{◌≡◌}
use Rattle.model.specs.Entries.{phase_at}
use Rattle.model.specs.Keys.{phase_part}
use Rattle.keys.proofs.phase_part.Given as goal

abbrev pub invariant-loop-i : goal.invariant-loop-i
invariant-loop-i l = l.h ≡ phase_part l.salts l.i (phase_at l.rows)
