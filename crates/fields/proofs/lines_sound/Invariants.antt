-- The lines from line i on give the whole.
use Rattle.std.proofs.Common.{◌≡◌, ◌*◌, drop}
use Rattle.model.specs.Sheet.{lines_fields}
use Rattle.fields.specs.Read.{is_some}
use Rattle.fields.proofs.lines_sound.Given as goal

abbrev pub invariant-loop-i : goal.invariant-loop-i
invariant-loop-i l = is_some (lines_fields 3 (drop (64 * l.i) l.text)) ≡ is_some (lines_fields 3 l.text)
