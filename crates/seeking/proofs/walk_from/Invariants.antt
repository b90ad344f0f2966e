-- `Walking`: the rest of the walk gives what is left of the answer. Each turn takes one entry more.
use Prim.Native.Nat.{◌-◌}
use Rattle.seeking.specs.Noted.{seen_at, gathered}
use Rattle.seeking.specs.Walk.{sought_in, Walking}
use Rattle.seeking.proofs.walk_from.Given as goal

abbrev pub invariant-keys : goal.invariant-keys
invariant-keys l = Walking l.size l.threshold (sought_in l.size l.store l.fn.sought) (gathered l.count (seen_at l.size l.places l.store)) l.compared l.i

abbrev pub decreases-keys : goal.decreases-keys
decreases-keys l = l.count - l.i
