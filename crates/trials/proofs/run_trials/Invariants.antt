-- What the trials so far have shown, and the last one's sum.
use Rattle.std.proofs.Common.{◌≡◌, length}
use Rattle.model.specs.Calls.{held}
use Rattle.model.specs.Trials.{plan_of}
use Rattle.trials.proofs.SoFar.{SoFar}
use Rattle.trials.proofs.run_trials.Given as goal

abbrev pub invariant-loop-i : goal.invariant-loop-i
invariant-loop-i l =
    (many : length (plan_of l.size l.threshold l.cutoffs l.channels l.qubits l.count).calls ≡ l.count)
    → SoFar (plan_of l.size l.threshold l.cutoffs l.channels l.qubits l.count) l.initial.store l.initial.out many l.i (held l.header l.store) l.out
