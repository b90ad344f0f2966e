-- Masks worked out once, and what each Pauli at a qubit changes, by them. Assumes nothing.
use mathlib.Core.Path.{◌≡◌, refl, sym, ap, ◌∙◌}
use mathlib.Core.List.{List, [], ◌∷◌}
use mathlib.Core.Logic.{⊎_elim}
use Prim.Native.Nat.{ℕ, zero, suc, ◌+◌, ◌*◌, ◌-◌, ◌≤◌, ◌<◌}
use native.Mathlib.Nat.{mul-zero, mul-one, eq-or-lt_of_le, sub-zero}
use native.Mathlib.Omega.{arith}
use lib.Bits.{bit_xor, xor_comm}
use lib.ListN.{length, get_or, set, length-set}
use lib.Seq.{get_or-set_same, get_or-set_other}
use Rattle.model.specs.Keys.{if_set, row_mask, mask_xor, x_bit, z_bit}
use Rattle.model.specs.Changes.{masks_of}
use Rattle.model.specs.declared.Salts.{Salts}
use Rattle.model.proofs.Xor.{xor_assoc}
use Rattle.model.proofs.Sums.{mask_xor-none, mask_xor-next}
use Rattle.changes.specs.Changes.{SignMasks, packed, low_rows, change_of, change_table, Walks}
use Rattle.changes.specs.declared.Walked.{Walked}
use Rattle.changes.proofs.Flips.{i-masks, x-masks, y-masks, z-masks, i-bits, x-bits, y-bits, z-bits}

-- m times a bit
pub if_set-times : (b m : ℕ) → b < 2 → m * b ≡ if_set b m
unfolding if_set
if_set-times zero m h = mul-zero m
if_set-times (suc zero) m h = mul-one m
if_set-times (suc (suc b)) m h = omega arith

pub times-le : (b m : ℕ) → b < 2 → m * b ≤ m
times-le zero m h = omega (arith, mul-zero m)
times-le (suc zero) m h = omega (arith, mul-one m)
times-le (suc (suc b)) m h = omega arith

-- ---- the masks

module _ (s : Salts) where
  pub masks-none : (l : List ℕ) → length l ≡ 128 → SignMasks s 0 l
  masks-none l h = record { long = h; each = λ i k. absurd (omega arith) }

  pub masks-more : {l : List ℕ} {v : ℕ} (i : ℕ) → i < 128 → v ≡ row_mask i s.sign → SignMasks s i l → SignMasks s (i + 1) (set l i v)
  masks-more {l} {v} i h e m =
      record {
        long = length-set l i v ∙ m.long;
        each = λ j k.
            ⊎_elim
            (λ (w : j ≡ i). ap (λ (x : ℕ). get_or (set l i v) x 0) w ∙ get_or-set_same l i v 0 (omega (arith, m.long)) ∙ e ∙ ap (λ (x : ℕ). row_mask x s.sign) (sym w))
            (λ (w : j < i). get_or-set_other l i j v 0 (λ d. absurd (omega arith)) ∙ m.each j w)
            (eq-or-lt_of_le (omega arith));
      }

  -- those of fewer rows
  pub masks-fewer : {l : List ℕ} (m i : ℕ) → i ≤ m → SignMasks s m l → SignMasks s i l
  masks-fewer m i h k = record { long = k.long; each = λ j d. k.each j (omega arith) }

-- ---- rows walked

-- the two words
pub low-few : (n : ℕ) {l : ℕ} → n ≤ 64 → l ≡ low_rows n → (l ≤ 2 * n) × (l ≤ 64) × (2 * n ≤ l + 64)
unfolding low_rows
low-few n h e = (omega arith, omega arith, omega arith)

-- the row before i: its mask joins the sum of those from i on
pub sum-down : (salt : ℕ) (flag : ℕ → ℕ) (i v : ℕ) {t total : ℕ} → 0 < i → bit_xor (mask_xor salt i flag) v ≡ total → t ≡ if_set (flag (i - 1)) (row_mask (i - 1) salt)
    → bit_xor (mask_xor salt (i - 1) flag) (bit_xor v t) ≡ total
sum-down salt flag i v {t} {total} l h e =
    let m = mask_xor salt (i - 1) flag in
    let d : i - 1 + 1 ≡ i = omega arith in
    ap (bit_xor m) (xor_comm v t) ∙ sym (xor_assoc m t v) ∙ ap (λ (x : ℕ). bit_xor x v) (mask_xor-next salt (i - 1) flag refl e ∙ ap (λ (x : ℕ). mask_xor salt x flag) d) ∙ h

-- ---- the two walks together

module _ (s : Salts) (n : ℕ) (rows : List ℕ) (q : ℕ) {a b : Walked} (ha : Walks s rows q 0 (low_rows n) a) (hb : Walks s rows q (low_rows n) (2 * n) b) where
  whole : (flag : ℕ → ℕ) (v w : ℕ) → bit_xor (mask_xor s.sign 0 flag) v ≡ mask_xor s.sign (low_rows n) flag
      → bit_xor (mask_xor s.sign (low_rows n) flag) w ≡ mask_xor s.sign (2 * n) flag → bit_xor v w ≡ mask_xor s.sign (2 * n) flag
  whole flag v w h k = ap (λ (x : ℕ). bit_xor x w) (ap (λ (x : ℕ). bit_xor x v) (mask_xor-none s.sign flag) ∙ h) ∙ k

  x-whole : bit_xor a.x b.x ≡ mask_xor s.sign (2 * n) (x_bit rows q)
  x-whole = whole (x_bit rows q) a.x b.x ha.x_sum hb.x_sum

  z-whole : bit_xor a.z b.z ≡ mask_xor s.sign (2 * n) (z_bit rows q)
  z-whole = whole (z_bit rows q) a.z b.z ha.z_sum hb.z_sum

  xs-low : a.xs ≡ packed (x_bit rows q) 0 (low_rows n)
  xs-low = ha.x_packed ∙ ap (packed (x_bit rows q) 0) (sub-zero (low_rows n))

  zs-low : a.zs ≡ packed (z_bit rows q) 0 (low_rows n)
  zs-low = ha.z_packed ∙ ap (packed (z_bit rows q) 0) (sub-zero (low_rows n))

  -- the table
  pub table_is : 0 ∷ 0 ∷ 0 ∷ bit_xor a.z b.z ∷ a.zs ∷ b.zs ∷ bit_xor (bit_xor a.x b.x) (bit_xor a.z b.z) ∷ bit_xor a.xs a.zs ∷ bit_xor b.xs b.zs
      ∷ bit_xor a.x b.x ∷ a.xs ∷ b.xs ∷ [] ≡ change_table s n rows q
  unfolding change_table change_of masks_of
  table_is =
      let low = low_rows n in
      let rest = 2 * n - low_rows n in
      rw (
        i-masks s n rows q,
        x-masks s n rows q,
        y-masks s n rows q,
        z-masks s n rows q,
        i-bits rows 0 low q,
        i-bits rows low rest q,
        x-bits rows 0 low q,
        x-bits rows low rest q,
        y-bits rows 0 low q,
        y-bits rows low rest q,
        z-bits rows 0 low q,
        z-bits rows low rest q,
        x-whole,
        z-whole,
        xs-low,
        zs-low,
        hb.x_packed,
        hb.z_packed,
      ) refl
