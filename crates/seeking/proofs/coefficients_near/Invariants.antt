-- The coefficients passed are near.
use Rattle.likeness.specs.Near.{NearBelow}
use Rattle.seeking.proofs.coefficients_near.Given as goal

abbrev pub invariant-loop-j : goal.invariant-loop-j
invariant-loop-j l = NearBelow l.limit l.coefs l.parent_coefs l.count l.j
