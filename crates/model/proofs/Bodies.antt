-- Sound bodies: flips, losses and gates of qubits below n leave no bit at n or higher and no phase above 3, so every call keeps them; and
-- the fresh entry's is one. Assumes nothing.
use Prim.Native.Nat.{ℕ, zero, suc, ◌+◌, ◌*◌, ◌-◌, ◌/◌, ◌^◌, ◌<◌, ◌≤◌}
use native.Mathlib.Nat.{div-eq_of_lt}
use native.Mathlib.Omega.{arith}
use mathlib.Core.Path.{◌≡◌, refl, ap, ap₂, ◌∙◌}
use mathlib.Core.Bool.{Bool, true, false, cond, ◌&&◌, ◌||◌}
use mathlib.Core.List.{List, ◌∷◌}
use lib.Bits.{bit_xor, xor_shr, xor_lt, xor_zero_r}
use lib.Dec.{eqb, ltb, leb}
use lib.Ieee.{of_bits}
use lib.ListN.{get_or, replicate}
use lib.Pow.{pow-lt, pow_pos}
use borrow.Author.Tests.{eqb-true, eq-eqb, leb-true, le-leb, leb-false, ltb-true, ltb-false, le-ltb}
use Rattle.model.specs.Lists.{some_of}
use Rattle.model.specs.Floats.{zero_bits, one_bits, finite}
use Rattle.model.specs.Entries.{Body, Row, row_at, map_rows, rows_below, coefs_len}
use Rattle.model.specs.Keys.{if_set}
use Rattle.model.specs.Changes.{flipped_row, changed_body}
use Rattle.model.specs.Gates.{turned_row, gate_qubits}
use Rattle.model.specs.Numbers.{some_not_below, both_the_same, fits_in, coef_sound, row_sound, coefs_sound, rows_sound, body_sound}
use Rattle.model.specs.Calls.{fresh_row, fresh_entry}
use Rattle.model.specs.Qubits.{QubitsBelow}
use Rattle.model.specs.declared.BranchMutation.{BranchMutation}
use Rattle.model.specs.declared.BranchMutation.TheVariants.{Pauli as pauli, Pair as pair, Loss as loss}
use Rattle.model.specs.declared.Gate.{Gate}
use Rattle.model.specs.declared.Gate.TheVariants.{H, S, Cnot}
use Rattle.model.specs.declared.Size.{Size}
use Rattle.model.proofs.Lists.{and_both, or-neither, all-at, all_of}
use Rattle.model.proofs.Rows.{map_rows-row, rows_below-row}
use Rattle.model.proofs.Sound.{body-parts, body_of}
use Rattle.model.proofs.Kept.{GateFits, KeptBody}

-- ---- bits at n or higher

module _ (n : ℕ) where
  fits_below : (w : ℕ) → w < 2 ^ n → fits_in n w ≡ true
  unfolding fits_in
  fits_below w h = eq-eqb _ 0 (div-eq_of_lt h)

  fits-zero : fits_in n 0 ≡ true
  fits-zero = fits_below 0 (pow_pos n)

  fits-power : (q : ℕ) → q < n → fits_in n (2 ^ q) ≡ true
  fits-power q h = fits_below (2 ^ q) (pow-lt h)

  fits_xor : (a b : ℕ) → fits_in n a ≡ true → fits_in n b ≡ true → fits_in n (bit_xor a b) ≡ true
  unfolding fits_in
  fits_xor a b p q = eq-eqb _ 0 (xor_shr a b n ∙ ap₂ bit_xor (eqb-true (a / 2 ^ n) 0 p) (eqb-true (b / 2 ^ n) 0 q))

  -- bit q flipped or not
  fits-flip : (w q b : ℕ) → q < n → fits_in n w ≡ true → fits_in n (bit_xor w (if_set b (2 ^ q))) ≡ true
  unfolding if_set
  fits-flip w q zero h p = fits_xor w 0 p fits-zero
  fits-flip w q (suc b) h p = fits_xor w (2 ^ q) p (fits-power q h)

-- bit 1 of a phase flipped or not
phase-flip : (p b : ℕ) → leb p 3 ≡ true → leb (bit_xor p (if_set b 2)) 3 ≡ true
unfolding if_set
phase-flip p zero h = rw (xor_zero_r p) h
phase-flip p (suc b) h =
    let l = leb-true p 3 h in
    let x : bit_xor p 2 < 4 = xor_lt 2 p 2 (omega (arith, l)) (omega arith) in
    le-leb (bit_xor p 2) 3 (omega (arith, x))

-- ---- a row

record RowParts (n : ℕ) (r : Row) : Type 0 where
  x : fits_in n r.x ≡ true
  z : fits_in n r.z ≡ true
  phase : leb r.phase 3 ≡ true

row-parts : (n : ℕ) (r : Row) → row_sound n r ≡ true → RowParts n r
unfolding row_sound
row-parts n r e =
    let a = and_both (fits_in n r.x && fits_in n r.z) (leb r.phase 3) e in
    let b = and_both (fits_in n r.x) (fits_in n r.z) a.0 in
    record { x = b.0; z = b.1; phase = a.1 }

row_of : (n : ℕ) (r : Row) → RowParts n r → row_sound n r ≡ true
unfolding row_sound
row_of n r p = rw (p.x, p.z, p.phase)

flipped-sound : (n : ℕ) (c : BranchMutation) (r : Row) → row_sound n r ≡ true → row_sound n (flipped_row c r) ≡ true
unfolding flipped_row
flipped-sound n c r e = let p = row-parts n r e in row_of n _ (record { x = p.x; z = p.z; phase = phase-flip r.phase _ p.phase })

-- the qubits of a gate that number 3 lets through
abbrev GateBelow : ℕ → Gate → Type 0
GateBelow m (H q) = q < m
GateBelow m (S q) = q < m
GateBelow m (Cnot a b) = (a < m) × (b < m)

gate-below : (n : ℕ) (g : Gate) → GateFits n g → GateBelow n g
unfolding some_not_below some_of gate_qubits both_the_same
gate-below n (H q) e = leb-false n q (or-neither (leb n q) false (or-neither (leb n q || false) false e).0).0
gate-below n (S q) e = leb-false n q (or-neither (leb n q) false (or-neither (leb n q || false) false e).0).0
gate-below n (Cnot a b) e =
    let qs = or-neither (leb n a) (leb n b || false) (or-neither (leb n a || (leb n b || false)) (eqb a b) e).0 in
    (leb-false n a qs.0, leb-false n b (or-neither (leb n b) false qs.1).0)

turned-sound : (n : ℕ) (g : Gate) (r : Row) → GateBelow n g → row_sound n r ≡ true → row_sound n (turned_row g r) ≡ true
unfolding turned_row
turned-sound n (H q) r h e =
    let p = row-parts n r e in
    row_of n _ (record { x = fits-flip n r.x q _ h p.x; z = fits-flip n r.z q _ h p.z; phase = phase-flip r.phase _ p.phase })
turned-sound n (S q) r h e =
    let p = row-parts n r e in
    row_of n _ (record { x = p.x; z = fits-flip n r.z q _ h p.z; phase = phase-flip r.phase _ p.phase })
turned-sound n (Cnot a b) r h e =
    let p = row-parts n r e in
    row_of n _ (record { x = fits-flip n r.x b _ h.1 p.x; z = fits-flip n r.z a _ h.0 p.z; phase = phase-flip r.phase _ p.phase })

-- ---- all rows

mapped-sound : (n : ℕ) (f : Row → Row) → ((r : Row) → row_sound n r ≡ true → row_sound n (f r) ≡ true) → (rows : List ℕ)
    → rows_sound n rows ≡ true → rows_sound n (map_rows n f rows) ≡ true
unfolding rows_sound
mapped-sound n f h rows e =
    all_of (λ r. row_sound n (row_at (map_rows n f rows) r)) (2 * n)
    (λ r l. ap (row_sound n) (map_rows-row n f rows r l) ∙ h (row_at rows r) (all-at (λ r. row_sound n (row_at rows r)) (2 * n) r e l))

-- ---- a body

-- a sound body with sound rows in place of its own
rows-sound : (s : Size) (b : Body) (f : Row → Row) → ((r : Row) → row_sound s.n r ≡ true → row_sound s.n (f r) ≡ true)
    → body_sound s b ≡ true → body_sound s (record { loss = b.loss; count = b.count; coefs = b.coefs; rows = map_rows s.n f b.rows }) ≡ true
rows-sound s b f h e =
    let p = body-parts s b e in
    body_of s _ (record { loss = p.loss; count = p.count; coefs = p.coefs; rows = mapped-sound s.n f h b.rows p.rows })

changed-sound : (s : Size) (c : BranchMutation) (b : Body) → QubitsBelow s.n c → body_sound s b ≡ true → body_sound s (changed_body s.n c b) ≡ true
unfolding changed_body
changed-sound s (pauli p q) b h e = rows-sound s b _ (flipped-sound s.n (pauli p q)) e
changed-sound s (pair p a o q) b h e = rows-sound s b _ (flipped-sound s.n (pair p a o q)) e
changed-sound s (loss q) b h e =
    let p = body-parts s b e in
    body_of s _ (record { loss = fits_xor s.n b.loss (2 ^ q) p.loss (fits-power s.n q h); count = p.count; coefs = p.coefs; rows = p.rows })

-- every call keeps sound bodies
pub sound-kept : (s : Size) → KeptBody s.n (λ b. body_sound s b ≡ true)
sound-kept s =
    record {
      changes = changed-sound s;
      gates = λ g b f e. rows-sound s b (turned_row g) (λ r p. turned-sound s.n g r (gate-below s.n g f) p) e;
    }

-- ---- the fresh entry

zeros-at : (m i : ℕ) → get_or {A = ℕ} (replicate m 0) i 0 ≡ 0
zeros-at zero i = refl
zeros-at (suc m) zero = refl
zeros-at (suc m) (suc i) = zeros-at m i

module _ (m : ℕ) where
  abbrev one : List ℕ
  one = 0 ∷ one_bits ∷ zero_bits ∷ replicate m 0

  first-coef : coef_sound 1 one 0 ≡ true
  unfolding coef_sound finite of_bits
  first-coef = refl

  -- word i of the places after the first
  later-word : (i k : ℕ) → k ≡ suc (suc (suc i)) → get_or one k 0 ≡ 0
  later-word i k e = ap (λ (n : ℕ). get_or one n 0) e ∙ zeros-at m i

  fresh-coef : (j : ℕ) → coef_sound 1 one j ≡ true
  unfolding coef_sound
  fresh-coef zero = first-coef
  fresh-coef (suc j) =
      rw (
        le-ltb (suc j) 1 (omega arith),
        later-word (3 * j) (3 * suc j) (omega arith),
        later-word (3 * j + 1) (3 * suc j + 1) (omega arith),
        later-word (3 * j + 2) (3 * suc j + 2) (omega arith),
      )

fresh-row : (n r : ℕ) → r < 2 * n → row_sound n (fresh_row n r) ≡ true
unfolding fresh_row
fresh-row n r h = go (ltb r n) refl
  where
    go : (t : Bool) → ltb r n ≡ t → row_sound n (cond t (record { x = 2 ^ r; z = 0; phase = 0 }) (record { x = 0; z = 2 ^ (r - n); phase = 0 })) ≡ true
    go true e = row_of n _ (record { x = fits-power n r (ltb-true r n e); z = fits-zero n; phase = refl })
    go false e =
        let l = ltb-false r n e in
        row_of n _ (record { x = fits-zero n; z = fits-power n (r - n) (omega (arith, l, h)); phase = refl })

fresh-rows : (n : ℕ) → rows_sound n (rows_below (fresh_row n) (2 * n)) ≡ true
unfolding rows_sound
fresh-rows n =
    all_of (λ r. row_sound n (row_at (rows_below (fresh_row n) (2 * n)) r)) (2 * n)
    (λ r l. ap (row_sound n) (rows_below-row (fresh_row n) (2 * n) r l) ∙ fresh-row n r l)

pub fresh-sound : (s : Size) → 1 ≤ s.k → body_sound s (fresh_entry s).body ≡ true
unfolding fresh_entry coefs_sound
fresh-sound s h =
    body_of s _
    (record { loss = fits-zero s.n; count = le-leb 1 s.k h; coefs = all_of _ s.k (λ j l. fresh-coef (coefs_len s - 3) j); rows = fresh-rows s.n })
