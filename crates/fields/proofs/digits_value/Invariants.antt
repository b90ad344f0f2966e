-- What is left to read, after v, gives the whole.
use Rattle.std.proofs.Common.{◌≡◌, drop}
use Rattle.model.specs.Sheet.{value_from}
use Rattle.fields.proofs.digits_value.Given as goal

abbrev pub invariant-loop-b : goal.invariant-loop-b
invariant-loop-b l = value_from l.v (drop l.b-index l.text) ≡ value_from 0 l.text
