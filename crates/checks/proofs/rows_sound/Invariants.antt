-- The loop's invariant: the six ORs, taken together, say whether the rows passed are sound.
use Rattle.std.proofs.Common.{◌≡◌, ◌*◌, bit_or}
use Rattle.model.specs.Lists.{all_below}
use Rattle.checks.proofs.Ors.{none_over, sound_at}
use Rattle.checks.proofs.rows_sound.Given as goal

abbrev pub invariant-loop-i : goal.invariant-loop-i
invariant-loop-i l = none_over l.n (bit_or (bit_or l.a l.b) (bit_or l.d l.e)) (bit_or l.c l.f) ≡ all_below (sound_at l.n l.rows) (2 * l.i)
