-- The loop's invariant: none of the coefficients read so far is a hit.
use Prim.Native.Nat.{◌+◌}
use Rattle.likeness.specs.Walk.{Passed}
use Rattle.likeness.proofs.walk_on.Given as goal

abbrev pub invariant-loop-i : goal.invariant-loop-i
invariant-loop-i l = Passed l.coefs l.index l.count (l.begun + l.i)
