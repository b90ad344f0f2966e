-- The fields from field j on give the whole.
use Rattle.std.proofs.Common.{◌≡◌, ◌*◌}
use Rattle.model.specs.Sheet.{line_fields}
use Rattle.fields.specs.Read.{is_some}
use Rattle.fields.proofs.Tested.{line_from}
use Rattle.fields.proofs.line_sound.Given as goal

abbrev pub invariant-loop-j : goal.invariant-loop-j
invariant-loop-j l = line_from l.m l.j (21 * l.j) l.text ≡ is_some (line_fields l.m l.text)
