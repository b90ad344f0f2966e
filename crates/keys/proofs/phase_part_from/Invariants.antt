-- The invariant: h is the phase part of the rows below i, for the salts that the table is made with.
use Rattle.std.proofs.Common.{◌≡◌}
use Rattle.model.specs.Entries.{phase_at}
use Rattle.model.specs.Keys.{phase_part}
use Rattle.model.specs.declared.Salts.{Salts}
use Rattle.keys.specs.Tables.{PhaseMasks}
use Rattle.keys.proofs.phase_part_from.Given as goal

abbrev pub invariant-loop-i : goal.invariant-loop-i
invariant-loop-i l = (s : Salts) → PhaseMasks s l.m l.table → l.h ≡ phase_part s l.i (phase_at l.rows)
