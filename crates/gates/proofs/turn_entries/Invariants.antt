-- The loop's invariant: the entries passed are turned.
use Rattle.model.specs.Store.{keyed_weighed}
use Rattle.model.specs.Gates.{turned}
use Rattle.entries.proofs.Turns.{Done}
use Rattle.gates.proofs.turn_entries.Given as goal

abbrev pub invariant-loop-place : goal.invariant-loop-place
invariant-loop-place l = Done l.size l.count (λ i. turned keyed_weighed l.size.n l.gate) l.place l.initial.store l.store
