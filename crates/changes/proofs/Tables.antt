-- What the tables give for a branch: what it changes. Assumes nothing.
use mathlib.Core.Path.{◌≡◌, refl, ap, ap₂, ◌∙◌}
use mathlib.Core.List.{List}
use Prim.Native.Nat.{ℕ, zero, suc, ◌+◌, ◌*◌, ◌-◌, ◌/◌, ◌%◌, ◌<◌, ◌≤◌}
use native.Mathlib.Omega.{arith}
use lib.Bits.{bit_xor}
use lib.ListN.{length}
use Rattle.model.specs.Entries.{Row, row_at, x_at, z_at}
use Rattle.model.specs.Keys.{usual_salts, bit}
use Rattle.model.specs.Changes.{flips, flips_by, flip_masks, masks_of}
use Rattle.model.specs.declared.BranchMutation.{BranchMutation}
use Rattle.model.specs.declared.BranchMutation.TheVariants.{Pauli as pauli, Pair as pair, Loss as loss}
use Rattle.model.specs.declared.Pauli.{Pauli}
use Rattle.model.specs.declared.Pauli.TheVariants.{I, X, Y, Z}
use Rattle.model.proofs.Sums.{mask_xor-ext}
use Rattle.arms.specs.Arms.{pauli_at, mutation_at}
use Rattle.arms.specs.declared.Shape.{Shape}
use Rattle.arms.specs.declared.Shape.TheVariants.{One, Lose, Two}
use Rattle.changes.specs.Changes.{loss_change, flip_bits, low_rows, change_of, change_table}
use Rattle.changes.specs.declared.Change.{Change}
use Rattle.changes.proofs.Flips.{pair-masks, pair-bits, loss-is}
use Rattle.changes.proofs.Packed.{packed-ext}
use Rattle.changes.specs.Tables.{walked_rows, four, no_change, first_table, second_table, both_change, change_in, change_at}

module _ (n : ℕ) (rows : List ℕ) where
  -- number i of a table is what the Pauli of that number changes
  in_table : (q i : ℕ) → i < 4 → change_in (change_table usual_salts n rows q) i ≡ change_of usual_salts n (pauli (pauli_at i) q) rows
  unfolding change_in change_table change_of pauli_at
  in_table q zero h = refl
  in_table q (suc zero) h = refl
  in_table q (suc (suc zero)) h = refl
  in_table q (suc (suc (suc zero))) h = refl
  in_table q (suc (suc (suc (suc i)))) h = absurd (omega arith)

  -- a change four times over
  in_four : (c : Change) (i : ℕ) → i < 4 → change_in (four c) i ≡ c
  unfolding change_in
  in_four c zero h = refl
  in_four c (suc zero) h = refl
  in_four c (suc (suc zero)) h = refl
  in_four c (suc (suc (suc zero))) h = refl
  in_four c (suc (suc (suc (suc i)))) h = absurd (omega arith)

  -- beside nothing, a change is what it is
  nothing-first : (c : Change) → both_change no_change c ≡ c
  unfolding both_change
  nothing-first c = refl

  -- two Paulis change what each of them changes
  both-are : (p : Pauli) (a : ℕ) (o : Pauli) (b : ℕ)
      → both_change (change_of usual_salts n (pauli p a) rows) (change_of usual_salts n (pauli o b) rows) ≡ change_of usual_salts n (pair p a o b) rows
  unfolding both_change change_of masks_of
  both-are p a o b =
      let low = low_rows n in
      rw (pair-masks usual_salts n rows p a o b, pair-bits rows 0 low p a o b, pair-bits rows low (2 * n - low) p a o b) refl

  pub branch-changes : (h : Shape) (a : ℕ) → a < 15 → change_at (first_table h n rows) (second_table h n rows) a ≡ change_of usual_salts n (mutation_at h a) rows
  unfolding mutation_at change_at first_table second_table
  branch-changes (One q) a l =
      ap₂ both_change (in_four no_change ((a + 1) / 4) (omega arith)) (in_table q ((a + 1) % 4) (omega arith)) ∙ nothing-first (change_of usual_salts n (pauli (pauli_at ((a + 1) % 4)) q) rows)
  branch-changes (Lose q) a l =
      ap₂ both_change (in_four no_change ((a + 1) / 4) (omega arith)) (in_four (loss_change q) ((a + 1) % 4) (omega arith)) ∙ nothing-first (loss_change q) ∙ loss-is n rows q
  branch-changes (Two p q) a l =
      let f = pauli_at ((a + 1) / 4) in
      let o = pauli_at ((a + 1) % 4) in
      ap₂ both_change (in_table p ((a + 1) / 4) (omega arith)) (in_table q ((a + 1) % 4) (omega arith)) ∙ both-are f p o q

-- ---- changes and tables are of x and z alone

-- the first m rows of the two have the same x and z
abbrev pub SamePaulis : ℕ → (a b : List ℕ) → Type 0
SamePaulis m a b = (r : ℕ) → r < m → (x_at a r ≡ x_at b r) × (z_at a r ≡ z_at b r)

flips-same : (p : Pauli) (q : ℕ) (a b : Row) → a.x ≡ b.x → a.z ≡ b.z → flips p q a ≡ flips p q b
unfolding flips
flips-same I q a b x z = refl
flips-same X q a b x z = ap (bit q) z
flips-same Y q a b x z = ap₂ (λ (s t : ℕ). bit_xor (bit q s) (bit q t)) x z
flips-same Z q a b x z = ap (bit q) x

flag_same : (m : BranchMutation) (a b : Row) → a.x ≡ b.x → a.z ≡ b.z → flips_by m a ≡ flips_by m b
unfolding flips_by
flag_same (pauli p q) a b x z = flips-same p q a b x z
flag_same (pair p q o r) a b x z = ap₂ bit_xor (flips-same p q a b x z) (flips-same o r a b x z)
flag_same (loss q) a b x z = refl

module _ (n : ℕ) (a b : List ℕ) (h : SamePaulis (2 * n) a b) where
  flags : (m : BranchMutation) (r : ℕ) → r < 2 * n → flips_by m (row_at a r) ≡ flips_by m (row_at b r)
  flags m r l = flag_same m (row_at a r) (row_at b r) (h r l).0 (h r l).1

  same_bits : (m : BranchMutation) (from many : ℕ) → from + many ≤ 2 * n → flip_bits m a from many ≡ flip_bits m b from many
  unfolding flip_bits
  same_bits m from many l = packed-ext _ _ from many (λ r u v. flags m r (omega arith))

  same-flips : (m : BranchMutation) → flip_masks usual_salts n m a ≡ flip_masks usual_salts n m b
  unfolding flip_masks
  same-flips m = mask_xor-ext usual_salts.sign (2 * n) (λ r. flips_by m (row_at a r)) (λ r. flips_by m (row_at b r)) (flags m)

  same-masks : (m : BranchMutation) → masks_of usual_salts n m a ≡ masks_of usual_salts n m b
  unfolding masks_of
  same-masks (pauli p q) = same-flips (pauli p q)
  same-masks (pair p q o r) = same-flips (pair p q o r)
  same-masks (loss q) = refl

  -- what a mutation changes
  pub same-change : (m : BranchMutation) → change_of usual_salts n m a ≡ change_of usual_salts n m b
  unfolding change_of low_rows
  same-change m = let l = low_rows n in rw (same-masks m, same_bits m 0 l (omega arith), same_bits m l (2 * n - l) (omega arith)) refl

same-table : (n : ℕ) (a b : List ℕ) → SamePaulis (2 * n) a b → (q : ℕ) → change_table usual_salts n a q ≡ change_table usual_salts n b q
unfolding change_table
same-table n a b h q =
    rw (same-change n a b h (pauli I q), same-change n a b h (pauli X q), same-change n a b h (pauli Y q), same-change n a b h (pauli Z q)) refl

pub first-same : (h : Shape) (n : ℕ) (a b : List ℕ) → SamePaulis (walked_rows h n) a b → first_table h n a ≡ first_table h n b
unfolding first_table walked_rows
first-same (One q) n a b s = refl
first-same (Lose q) n a b s = refl
first-same (Two p q) n a b s = same-table n a b s p

pub second-same : (h : Shape) (n : ℕ) (a b : List ℕ) → SamePaulis (walked_rows h n) a b → second_table h n a ≡ second_table h n b
unfolding second_table walked_rows
second-same (One q) n a b s = same-table n a b s q
second-same (Lose q) n a b s = refl
second-same (Two p q) n a b s = same-table n a b s q

-- ---- their sizes

pub first-long : (h : Shape) (n : ℕ) (rows : List ℕ) → length (first_table h n rows) ≡ 12
unfolding first_table change_table
first-long (One q) n rows = refl
first-long (Lose q) n rows = refl
first-long (Two p q) n rows = refl

pub second-long : (h : Shape) (n : ℕ) (rows : List ℕ) → length (second_table h n rows) ≡ 12
unfolding second_table change_table
second-long (One q) n rows = refl
second-long (Lose q) n rows = refl
second-long (Two p q) n rows = refl

pub few-walked : (h : Shape) (n : ℕ) → walked_rows h n ≤ 2 * n
unfolding walked_rows
few-walked (One q) n = omega arith
few-walked (Lose q) n = omega arith
few-walked (Two p q) n = omega arith
