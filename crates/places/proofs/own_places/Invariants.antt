-- The places below i are their own.
use Rattle.std.proofs.Common.{◌≡◌, ℕ, ◌<◌, get_or, length}
use Rattle.places.proofs.own_places.Given as goal

abbrev pub invariant-loop-i : goal.invariant-loop-i
invariant-loop-i l = (length l.places ≡ 256) × ((u : ℕ) → u < l.i → get_or l.places u 0 ≡ u)
