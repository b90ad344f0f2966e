-- Document 02, request 5, as laws of the definition: a gate that names a lost qubit, H and S their one, CNOT either of its two, leaves an entry
-- as it is; and where none that it names is lost its rows are turned, whatever else is. Assumes nothing.
use mathlib.Core.Path.{◌≡◌, refl, ap}
use mathlib.Core.Bool.{Bool, true, false, cond, ◌&&◌}
use Prim.Native.Nat.{ℕ}
use lib.Dec.{eqb}
use Rattle.model.specs.Lists.{every}
use Rattle.model.specs.Entries.{Body, map_rows}
use Rattle.model.specs.Keys.{lost_bit, all_live}
use Rattle.model.specs.Changes.{with_rows}
use Rattle.model.specs.Gates.{turned_row, turned_body, gate_qubits}
use Rattle.model.specs.declared.Gate.{Gate}
use Rattle.model.specs.declared.Gate.TheVariants.{H, S, Cnot}

-- the gate names qubit q
pub data Names (q : ℕ) : Gate → Type 0 where
  h : Names q (H q)
  s : Names q (S q)
  control : (t : ℕ) → Names q (Cnot q t)
  target : (c : ℕ) → Names q (Cnot c q)

and-false : (t : Bool) → (t && false) ≡ false
and-false true = refl
and-false false = refl

module _ (n : ℕ) (b : Body) where
  not_live : (q : ℕ) {g : Gate} → Names q g → lost_bit b q ≡ 1 → all_live b.loss (gate_qubits g) ≡ false
  unfolding gate_qubits every
  not_live q h e = rw e
  not_live q s e = rw e
  not_live q (control t) e = rw e
  not_live q (target c) e = rw (e, and-false (eqb (lost_bit b c) 0))

  by-loss : (g : Gate) {live : Bool} → all_live b.loss (gate_qubits g) ≡ live → turned_body n g b ≡ cond live (with_rows b (map_rows n (turned_row g) b.rows)) b
  unfolding turned_body
  by-loss g e = ap (λ (t : Bool). cond t (with_rows b (map_rows n (turned_row g) b.rows)) b) e

  pub passed_over : (q : ℕ) (g : Gate) → Names q g → lost_bit b q ≡ 1 → turned_body n g b ≡ b
  passed_over q g p e = by-loss g (not_live q p e)

  pub rows-turned : (g : Gate) → all_live b.loss (gate_qubits g) ≡ true → turned_body n g b ≡ with_rows b (map_rows n (turned_row g) b.rows)
  rows-turned g e = by-loss g e
