-- The invariant: the ORs so far are 0 exactly if the rows below i have the same x and z.
use Rattle.std.proofs.Common.{◌≡◌, nat_eq, bit_or}
use Rattle.model.specs.Lists.{all_below}
use Rattle.branch.specs.Same.{same_pauli}
use Rattle.branch.proofs.same_paulis.Given as goal

abbrev pub invariant-loop-i : goal.invariant-loop-i
invariant-loop-i l = nat_eq (bit_or l.x l.z) 0 ≡ all_below (same_pauli l.e l.p) l.i
