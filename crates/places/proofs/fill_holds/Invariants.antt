-- The first u of the order are held, each at its place.
use Rattle.places.specs.Settled.{Inverse}
use Rattle.places.proofs.fill_holds.Given as goal

abbrev pub invariant-loop-u : goal.invariant-loop-u
invariant-loop-u l = Inverse l.u l.order l.holds
