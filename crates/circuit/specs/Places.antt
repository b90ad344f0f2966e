-- Where things stand in a line. Assumes nothing.
use Rattle.std.specs.Prelude.{◌≡◌, List, ℕ, ◌-◌, ◌<◌, ◌≤◌, length, take, drop}
use Rattle.circuit.specs.Names.{named, item_of}
use Rattle.circuit.specs.declared.lines.Act.{Act}
use Rattle.circuit.specs.declared.lines.Item.TheVariants.{Call}
use Rattle.circuit.specs.declared.lines.Line.{Line}
use Rattle.circuit.specs.declared.lines.Misread.{Misread}
use Rattle.circuit.specs.declared.lines.Seen.TheVariants.{At}
use Rattle.circuit.specs.declared.lines.Target.{Target}

-- a line that was read: its places lie within it, and if it is a call, it is the one that its name stands for, with its arguments
pub record Read (text : List ℕ) (r : Line) : Type 0 where
  pub word : r.from ≤ r.to
  pub within : r.to ≤ length text
  pub after : r.targets ≤ length text
  pub called : (a : Act) → r.item ≡ Call a → Call a ≡ item_of (named (take (r.to - r.from) (drop r.from text))) r.rates

-- what a step through the targets finds from a place on, in a line of n bytes: qubits below 64, and then it has gone on
pub record Stepped (n at : ℕ) (r : Target) : Type 0 where
  pub word : r.from ≤ r.to
  pub onward : at ≤ r.from
  pub within : r.to ≤ n
  pub qubits : (p q : ℕ) → r.seen ≡ At p q → (p < 64) × (q < 64) × (r.from < r.to) × (r.to ≤ n)

-- the same of a place that may lie past the line
pub record Onward (n at : ℕ) (r : Target) : Type 0 where
  pub word : r.from ≤ r.to
  pub onward : at ≤ r.from
  pub within : at ≤ n → r.to ≤ n
  pub qubits : (p q : ℕ) → r.seen ≡ At p q → (p < 64) × (q < 64) × (r.from < r.to) × (r.to ≤ n)

-- a word at fault stands between two places
abbrev pub WordBetween : ℕ → Misread → ℕ → Type 0
WordBetween at m to = (at ≤ m.from) × (m.from ≤ m.to) × (m.to ≤ to)
