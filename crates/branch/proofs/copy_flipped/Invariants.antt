-- The invariant: the rows below r are copied, with what the mutation leaves of their phases.
use Rattle.std.proofs.Common.{◌≡◌, ◌-◌, drop}
use Rattle.model.specs.declared.BranchMutation.{BranchMutation}
use Rattle.changes.specs.Changes.{flip_bits}
use Rattle.branch.specs.Onto.{onto}
use Rattle.branch.proofs.Onto.{made}
use Rattle.branch.proofs.copy_flipped.Given as goal

abbrev pub invariant-loop-r : goal.invariant-loop-r
invariant-loop-r l =
    (m : BranchMutation) → l.flips ≡ flip_bits m (drop l.from l.initial.store) 0 l.rows
    → (l.left ≡ flip_bits m (drop l.from l.initial.store) l.r (l.rows - l.r)) × (l.store ≡ onto l.to (made l.from l.to l.initial.store m l.r) l.initial.store)
