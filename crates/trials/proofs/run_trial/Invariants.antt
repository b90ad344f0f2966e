-- What is shown and left so far, and the steps from here on, give the whole.
use Rattle.std.proofs.Common.{◌≡◌, ◌++◌, ◌*◌, take}
use Rattle.model.specs.Calls.{held}
use Rattle.model.specs.Known.{Checked}
use Rattle.model.specs.Demand3.{after_calls}
use Rattle.model.specs.Trials.{step_calls, accepted_of, places_of}
use Rattle.trials.proofs.Turns.{rest}
use Rattle.trials.proofs.run_trial.Given as goal

abbrev pub invariant-loop-i : goal.invariant-loop-i
invariant-loop-i l =
    Checked (held l.header l.store)
    × (after_calls (accepted_of (rest l.count l.channels l.qubits l.i) (held l.header l.store)) (held l.header l.store) ≡ after_calls (accepted_of (step_calls l.count l.channels l.qubits) (held l.initial.header l.initial.store)) (held l.initial.header l.initial.store))
    × (take (2 * l.i) l.places ++ places_of (rest l.count l.channels l.qubits l.i) (held l.header l.store) ≡ places_of (step_calls l.count l.channels l.qubits) (held l.initial.header l.initial.store))
