-- The loop has seen that the coefficients passed are the same in both.
use Rattle.likeness.specs.Same.{SameBelow}
use Rattle.likeness.proofs.leading_same.Given as goal

abbrev pub invariant-loop-j : goal.invariant-loop-j
invariant-loop-j l = SameBelow l.existing l.other l.j
