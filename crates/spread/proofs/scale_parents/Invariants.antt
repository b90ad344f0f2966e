-- The first i entries are scaled.
use Rattle.entries.proofs.Turns.{Done}
use Rattle.spread.specs.Branches.{scaled_by}
use Rattle.spread.proofs.scale_parents.Given as goal

abbrev pub invariant-loop-i : goal.invariant-loop-i
invariant-loop-i l = Done l.size l.count (λ k. scaled_by l.shape l.keep) l.i l.initial.store l.store
