-- H twice, S four times and CNOT of two qubits twice give each row back, so all rows: the bits that a gate flips are flipped twice, and the
-- sign an even number of times. So they give each entry's body back, whichever of its qubits are lost. Assumes nothing.
use mathlib.Core.Path.{◌≡◌, refl, sym, ap, ap₂, ◌∙◌}
use mathlib.Core.Bool.{Bool, true, false, cond}
use mathlib.Core.List.{List}
use Prim.Native.Nat.{ℕ, zero, suc, ◌*◌, ◌^◌, ◌<◌}
use native.Mathlib.Nat.{zero-mul}
use native.Mathlib.Omega.{arith}
use lib.Bits.{bit_xor, xor_zero_r}
use lib.ListN.{length}
use lib.Seq.{take_all}
use Rattle.model.proofs.Xor.{xor-cancel, xor-swap}
use Rattle.model.specs.Entries.{Body, Row, row_at, rows_below, map_rows}
use Rattle.model.specs.Keys.{bit, if_set, all_live}
use Rattle.model.specs.Changes.{flips, flips_by, flipped_row, with_rows}
use Rattle.model.specs.Gates.{xor_bit, turned_row, turned_body, gate_qubits}
use Rattle.model.specs.declared.BranchMutation.TheVariants.{Pauli as pauli}
use Rattle.model.specs.declared.Gate.{Gate}
use Rattle.model.specs.declared.Gate.TheVariants.{H, S, Cnot}
use Rattle.model.specs.declared.Pauli.TheVariants.{Z}
use Rattle.model.proofs.IfSet.{bit-lt, bit-xor, bit-none, bit-pow-other}
use Rattle.model.proofs.Rows.{same_row, map_rows-row}
use Rattle.model.proofs.Paulis.{turned_by, bit-flipped, undone, h-undoes, z-is}
use Rattle.gates.proofs.Rows.{rows_ext, own-rows}

-- f done k times
unfoldable pub repeated : {X : Type 0} → ℕ → (X → X) → X → X
repeated zero f x = x
repeated (suc k) f x = f (repeated k f x)

-- ---- bits

bit-unpicked : (j q b : ℕ) → (j ≡ q → ⊥) → bit j (if_set b (2 ^ q)) ≡ 0
unfolding if_set
bit-unpicked j q zero ne = bit-none j
bit-unpicked j q (suc b) ne = bit-pow-other j q ne

-- a bit other than bit q is as it was
bit_kept : (w q b j : ℕ) → (j ≡ q → ⊥) → bit j (xor_bit w q b) ≡ bit j w
bit_kept w q b j ne = bit-xor j w (if_set b (2 ^ q)) ∙ ap (bit_xor (bit j w)) (bit-unpicked j q b ne) ∙ xor_zero_r (bit j w)

-- ---- H

pub h-twice : (q : ℕ) (r : Row) → repeated 2 (turned_row (H q)) r ≡ r
unfolding repeated turned_by
h-twice q r = h-undoes q r

pub h-four : (q : ℕ) (r : Row) → repeated 4 (turned_row (H q)) r ≡ r
unfolding repeated
h-four q r = h-twice q (repeated 2 (turned_row (H q)) r) ∙ h-twice q r

-- ---- S

z-twice : (q : ℕ) (r : Row) → flipped_row (pauli Z q) (flipped_row (pauli Z q) r) ≡ r
unfolding flipped_row flips_by flips
z-twice q r = same_row refl refl (xor-cancel r.phase (if_set (bit q r.x) 2))

-- S twice is Z
pub s-four : (q : ℕ) (r : Row) → repeated 4 (turned_row (S q)) r ≡ r
unfolding repeated turned_by
s-four q r = z-is q (repeated 2 (turned_row (S q)) r) ∙ ap (flipped_row (pauli Z q)) (z-is q r) ∙ z-twice q r

-- ---- CNOT

-- its two signs are one: they differ in two flips where x_a and z_b are set, and are 0 elsewhere
sign-again : (xa zb xb za : ℕ) → xa < 2 → zb < 2 → xa * zb * bit_xor (bit_xor (bit_xor xb xa) (bit_xor za zb)) 1 ≡ xa * zb * bit_xor (bit_xor xb za) 1
sign-again zero zb xb za h k = simp zero-mul
sign-again (suc zero) zero xb za h k = simp zero-mul
sign-again (suc zero) (suc zero) xb za h k = ap (λ (d : ℕ). 1 * 1 * bit_xor d 1) (xor-swap xb 1 za 1 ∙ xor_zero_r (bit_xor xb za))
sign-again (suc zero) (suc (suc zb)) xb za h k = absurd (omega arith)
sign-again (suc (suc xa)) zb xb za h k = absurd (omega arith)

pub cnot-twice : (a b : ℕ) → (a ≡ b → ⊥) → (r : Row) → repeated 2 (turned_row (Cnot a b)) r ≡ r
unfolding repeated turned_row
cnot-twice a b ne r =
    let xa = bit a r.x in
    let za = bit a r.z in
    let xb = bit b r.x in
    let zb = bit b r.z in
    let lx = bit-lt a r.x in
    let lz = bit-lt b r.z in
    let xa' : bit a (xor_bit r.x b xa) ≡ xa = bit_kept r.x b xa a ne in
    let zb' : bit b (xor_bit r.z a zb) ≡ zb = bit_kept r.z a zb b (λ e. ne (sym e)) in
    let xb' : bit b (xor_bit r.x b xa) ≡ bit_xor xb xa = bit-flipped r.x b xa lx in
    let za' : bit a (xor_bit r.z a zb) ≡ bit_xor za zb = bit-flipped r.z a zb lz in
    same_row (undone r.x b xa _ xa') (undone r.z a zb _ zb')
    (undone r.phase 1 (xa * zb * bit_xor (bit_xor xb za) 1) _ (ap₂ ◌*◌ (ap₂ ◌*◌ xa' zb') (ap₂ (λ (u v : ℕ). bit_xor (bit_xor u v) 1) xb' za') ∙ sign-again xa zb xb za lx lz))

-- ---- all rows

module _ (n : ℕ) (f : Row → Row) (rows : List ℕ) (l : length rows ≡ 3 * (2 * n)) where
  own : rows_below (row_at rows) (2 * n) ≡ rows
  own = own-rows rows (2 * n) (omega arith) ∙ take_all (2 * n * 3) rows (omega arith)

  repeated-rows : (k : ℕ) → repeated k (map_rows n f) rows ≡ map_rows n (repeated k f) rows
  unfolding repeated map_rows
  repeated-rows zero = sym own
  repeated-rows (suc k) =
      ap (map_rows n f) (repeated-rows k)
      ∙ rows_ext (λ r. f (row_at (map_rows n (repeated k f) rows) r)) (λ r. f (repeated k f (row_at rows r))) (2 * n) (λ r h. ap f (map_rows-row n (repeated k f) rows r h))

  -- what gives each row back gives the rows back
  pub rows_back : (k : ℕ) → ((r : Row) → repeated k f r ≡ r) → repeated k (map_rows n f) rows ≡ rows
  unfolding map_rows
  rows_back k h = repeated-rows k ∙ rows_ext (λ r. repeated k f (row_at rows r)) (row_at rows) (2 * n) (λ r b. h (row_at rows r)) ∙ own

-- ---- a body: its rows, or nothing, since its losses stay as they are

module _ (n : ℕ) (g : Gate) (b : Body) where
  -- its rows turned k times, where none of the qubits is lost
  abbrev made : ℕ → Bool → Body
  made k live = cond live (with_rows b (repeated k (map_rows n (turned_row g)) b.rows)) b

  abbrev live_here : Bool
  live_here = all_live b.loss (gate_qubits g)

  not_yet : (live : Bool) → b ≡ made 0 live
  unfolding repeated
  not_yet true = refl
  not_yet false = refl

  once_more : (k : ℕ) (live : Bool) → live_here ≡ live → turned_body n g (made k live) ≡ made (suc k) live
  unfolding repeated turned_body
  once_more k true h = ap (λ (t : Bool). cond t (made (suc k) true) (made k true)) h
  once_more k false h = ap (λ (t : Bool). cond t (made 1 true) b) h

  repeated-body : (k : ℕ) → repeated k (turned_body n g) b ≡ made k live_here
  unfolding repeated
  repeated-body zero = not_yet live_here
  repeated-body (suc k) = ap (turned_body n g) (repeated-body k) ∙ once_more k live_here refl

  body_back : (k : ℕ) → length b.rows ≡ 3 * (2 * n) → ((r : Row) → repeated k (turned_row g) r ≡ r) → repeated k (turned_body n g) b ≡ b
  body_back k l h = repeated-body k ∙ go live_here
    where
      go : (live : Bool) → made k live ≡ b
      go true = ap (with_rows b) (rows_back n (turned_row g) b.rows l k h)
      go false = refl

module _ (n : ℕ) (b : Body) (l : length b.rows ≡ 3 * (2 * n)) where
  pub h-body : (q : ℕ) → repeated 2 (turned_body n (H q)) b ≡ b
  h-body q = body_back n (H q) b 2 l (h-twice q)

  pub s-body : (q : ℕ) → repeated 4 (turned_body n (S q)) b ≡ b
  s-body q = body_back n (S q) b 4 l (s-four q)

  pub cnot-body : (c t : ℕ) → (c ≡ t → ⊥) → repeated 2 (turned_body n (Cnot c t)) b ≡ b
  cnot-body c t ne = body_back n (Cnot c t) b 2 l (cnot-twice c t ne)
