-- The invariant: h is the word key of the rows below i.
use Rattle.std.proofs.Common.{◌≡◌}
use Rattle.model.specs.Entries.{x_at, z_at}
use Rattle.model.specs.Keys.{word_key}
use Rattle.keys.proofs.word_key.Given as goal

abbrev pub invariant-loop-i : goal.invariant-loop-i
invariant-loop-i l = l.h ≡ word_key l.i (x_at l.rows) (z_at l.rows)
