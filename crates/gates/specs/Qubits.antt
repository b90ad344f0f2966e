-- The qubits that a gate names. Assumes nothing.
use Rattle.std.specs.Prelude.{ℕ, ◌<◌}
use Rattle.model.specs.declared.Gate.{Gate}
use Rattle.model.specs.declared.Gate.TheVariants.{H, S, Cnot}

-- each is below m
abbrev pub GateBelow : ℕ → Gate → Type 0
GateBelow m (H q) = q < m
GateBelow m (S q) = q < m
GateBelow m (Cnot a b) = (a < m) × (b < m)
