-- Each turn goes on in the line.
use Rattle.std.proofs.Common.{◌-◌, ◌≤◌, length}
use Rattle.circuit.proofs.targets.reach_from.Given as goal

abbrev pub invariant-loop-p : goal.invariant-loop-p
invariant-loop-p l = (l.qubits ≤ 64) × (l.at ≤ length l.line)

abbrev pub decreases-loop-p : goal.decreases-loop-p
decreases-loop-p l = length l.line - l.at
