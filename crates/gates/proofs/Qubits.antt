-- Number 3 in the cases of a gate, and what it leaves: qubits below n, so below 64. Assumes nothing.
use mathlib.Core.Path.{◌≡◌, refl, ◌∙◌}
use mathlib.Core.Bool.{Bool, true, false, ◌||◌}
use Prim.Native.Nat.{ℕ, ◌≤◌}
use native.Mathlib.Nat.{lt_of_lt_of_le}
use lib.Dec.{leb, eqb}
use borrow.Author.Tests.{leb-false}
use Rattle.model.specs.Lists.{some_of}
use Rattle.model.specs.Gates.{gate_qubits}
use Rattle.model.specs.Numbers.{some_not_below, both_the_same}
use Rattle.model.specs.declared.Gate.{Gate}
use Rattle.model.specs.declared.Gate.TheVariants.{H, S, Cnot}
use Rattle.gates.specs.Qubits.{GateBelow}
use Rattle.model.proofs.Lists.{or-neither}

-- number 3 applies
abbrev pub refuses : ℕ → Gate → Bool
refuses n g = some_not_below n (gate_qubits g) || both_the_same g

-- one qubit's test, alone
pub alone : (b : Bool) → b ≡ ((b || false) || false)
alone true = refl
alone false = refl

module _ (n : ℕ) where
  pub accepted-below : (g : Gate) → refuses n g ≡ false → GateBelow n g
  unfolding some_not_below some_of gate_qubits both_the_same
  accepted-below (H q) e = leb-false n q (alone (leb n q) ∙ e)
  accepted-below (S q) e = leb-false n q (alone (leb n q) ∙ e)
  accepted-below (Cnot a b) e =
      let qs = or-neither (leb n a) (leb n b || false) (or-neither (leb n a || (leb n b || false)) (eqb a b) e).0 in
      (leb-false n a qs.0, leb-false n b (or-neither (leb n b) false qs.1).0)

pub below_more : (m k : ℕ) (g : Gate) → m ≤ k → GateBelow m g → GateBelow k g
below_more m k (H q) l h = lt_of_lt_of_le h l
below_more m k (S q) l h = lt_of_lt_of_le h l
below_more m k (Cnot a b) l h = (lt_of_lt_of_le h.0 l, lt_of_lt_of_le h.1 l)
