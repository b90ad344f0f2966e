-- The columns before column i are compared with the digits that are left.
use Rattle.std.proofs.Common.{◌≡◌, take}
use Rattle.model.specs.Sheet.{leading, field, same_words}
use Rattle.fields.proofs.is_field.Given as goal

abbrev pub invariant-loop-i : goal.invariant-loop-i
invariant-loop-i l = same_words (take l.i l.text) (leading l.i l.rest) ≡ same_words l.text (field l.v)
