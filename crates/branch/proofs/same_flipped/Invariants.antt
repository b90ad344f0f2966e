-- The invariant: the bits of the rows from i on are left, and the ORs so far are 0 exactly if the words of the rows below i are those that the
-- mutation leaves.
use Rattle.std.proofs.Common.{◌≡◌, ◌-◌, ◌*◌, nat_eq, bit_or}
use Rattle.model.specs.Lists.{all_below}
use Rattle.model.specs.declared.BranchMutation.{BranchMutation}
use Rattle.changes.specs.Changes.{flip_bits}
use Rattle.branch.proofs.Same.{same_at}
use Rattle.branch.proofs.same_flipped.Given as goal

abbrev pub invariant-loop-i : goal.invariant-loop-i
invariant-loop-i l =
    (m : BranchMutation) → l.flips ≡ flip_bits m l.p 0 l.rows
    → (l.left ≡ flip_bits m l.p l.i (l.rows - l.i)) × (nat_eq (bit_or (bit_or l.x l.z) l.phase) 0 ≡ all_below (same_at l.e l.p l.rows m) (3 * l.i))
