-- The first i places are filled.
use Rattle.std.proofs.Common.{◌≡◌, map, take, length}
use Rattle.step_pass.proofs.tried.qubits_of.Given as goal

abbrev pub invariant-loop-i : goal.invariant-loop-i
invariant-loop-i l = record {
  long : length l.qubits ≡ 64;
  filled : take l.i l.qubits ≡ map (λ s. s.qubit) (take l.i l.steps);
}
