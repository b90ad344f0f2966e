-- What is left of word and name, compared, gives the whole.
use Rattle.std.proofs.Common.{◌≡◌, drop}
use Rattle.circuit.specs.Names.{spells}
use Rattle.circuit.proofs.names.is_named.Given as goal

abbrev pub invariant-loop-i : goal.invariant-loop-i
invariant-loop-i l = spells (drop l.i l.word) (drop l.i l.name) ≡ spells l.word l.name
