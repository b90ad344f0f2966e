-- The call that an instruction of a circuit asks for. Assumes nothing.
use Rattle.std.specs.Prelude.{Bool, true, List, ℕ, Float}
use Rattle.model.specs.Channels.{one, two, depolarize2}
use Rattle.model.specs.Numbers.{rates_sound}
use Rattle.model.specs.Calls.{Call, noise, reset, gate, by_noise, by_reset, Kind, branching, turning, moving, looking, kind_of}
use Rattle.model.specs.declared.Gate.TheVariants as Gate
use Rattle.circuit.specs.declared.lines.Act.{Act}
use Rattle.calls.specs.declared.Operation.{Operation}

-- on a qubit p, or on the qubits p and q: CNOT is from p to q; the line's 15 rates are those of pairs of Paulis
abbrev pub call_of : Act → List Float → ℕ → ℕ → Call
call_of Act.H rates p q = gate (Gate.H p)
call_of Act.S rates p q = gate (Gate.S p)
call_of (Act.Channel c) rates p q = noise (one c p)
call_of Act.ResetLoss rates p q = reset p
call_of Act.Cnot rates p q = gate (Gate.Cnot p q)
call_of Act.PauliPairs rates p q = noise (two rates p q)
call_of (Act.Depolarize2 rate) rates p q = noise (depolarize2 rate p q)

abbrev pub call_on : Operation → Call
call_on o = call_of o.act o.rates o.p o.q

-- number 4 does not apply to a call: only channels have rates
abbrev pub sound_as : Kind → Bool
sound_as (branching (by_noise c)) = rates_sound c
sound_as (branching (by_reset q)) = true
sound_as turning = true
sound_as moving = true
sound_as (looking f) = true

abbrev pub sound_rates : Call → Bool
sound_rates c = sound_as (kind_of c)
