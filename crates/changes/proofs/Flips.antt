-- What Paulis flip: each flips a row or not, so the masks of what Y flips, or of what two Paulis flip, are the XOR of two sums of masks.
-- Assumes nothing.
use mathlib.Core.Path.{◌≡◌, refl}
use mathlib.Core.List.{List}
use Prim.Native.Nat.{ℕ, ◌*◌, ◌-◌, ◌<◌}
use native.Mathlib.Omega.{arith}
use lib.Bits.{bit_xor, xor_lt}
use Rattle.model.specs.Entries.{Row, row_at, x_at, z_at}
use Rattle.model.specs.Keys.{usual_salts, bit, mask_xor, x_bit, z_bit}
use Rattle.model.specs.Changes.{flips, flips_by, flip_masks, masks_of}
use Rattle.model.specs.declared.BranchMutation.{BranchMutation}
use Rattle.model.specs.declared.BranchMutation.TheVariants.{Pauli as pauli, Pair as pair, Loss as loss}
use Rattle.model.specs.declared.Pauli.{Pauli}
use Rattle.model.specs.declared.Pauli.TheVariants.{I, X, Y, Z}
use Rattle.model.specs.declared.Salts.{Salts}
use Rattle.model.proofs.IfSet.{bit-lt}
use Rattle.model.proofs.Sums.{mask_xor-clear, mask_xor-xor}
use Rattle.changes.specs.Changes.{packed, flip_bits, low_rows, loss_change, change_of}
use Rattle.changes.proofs.Packed.{packed-clear, packed-xor}

pub flips-lt : (p : Pauli) (q : ℕ) (r : Row) → flips p q r < 2
unfolding flips
flips-lt I q r = omega arith
flips-lt X q r = bit-lt q r.z
flips-lt Y q r = xor_lt 1 (bit q r.x) (bit q r.z) (bit-lt q r.x) (bit-lt q r.z)
flips-lt Z q r = bit-lt q r.x

pub flips_by-lt : (m : BranchMutation) (r : Row) → flips_by m r < 2
unfolding flips_by
flips_by-lt (pauli p q) r = flips-lt p q r
flips_by-lt (pair p a o b) r = xor_lt 1 (flips p a r) (flips o b r) (flips-lt p a r) (flips-lt o b r)
flips_by-lt (loss q) r = omega arith

module _ (s : Salts) (n : ℕ) (rows : List ℕ) where
  -- of two Paulis: the masks of the first XOR those of the second
  pub pair-masks : (p : Pauli) (a : ℕ) (o : Pauli) (b : ℕ)
      → flip_masks s n (pair p a o b) rows ≡ bit_xor (flip_masks s n (pauli p a) rows) (flip_masks s n (pauli o b) rows)
  unfolding flip_masks flips_by
  pair-masks p a o b =
      mask_xor-xor s.sign (2 * n) (λ r. flips p a (row_at rows r)) (λ r. flips o b (row_at rows r)) (λ r. flips-lt p a (row_at rows r))
      (λ r. flips-lt o b (row_at rows r))

  module _ (q : ℕ) where
    -- I flips nothing
    pub i-masks : flip_masks s n (pauli I q) rows ≡ 0
    unfolding flip_masks flips_by flips
    i-masks = mask_xor-clear s.sign (2 * n)

    -- X flips the rows with z set at q
    pub x-masks : flip_masks s n (pauli X q) rows ≡ mask_xor s.sign (2 * n) (z_bit rows q)
    unfolding flip_masks flips_by flips
    x-masks = refl

    -- Z those with x set
    pub z-masks : flip_masks s n (pauli Z q) rows ≡ mask_xor s.sign (2 * n) (x_bit rows q)
    unfolding flip_masks flips_by flips
    z-masks = refl

    -- Y those that X or Z flips and not both
    pub y-masks : flip_masks s n (pauli Y q) rows ≡ bit_xor (mask_xor s.sign (2 * n) (x_bit rows q)) (mask_xor s.sign (2 * n) (z_bit rows q))
    unfolding flip_masks flips_by flips
    y-masks = mask_xor-xor s.sign (2 * n) (x_bit rows q) (z_bit rows q) (λ r. bit-lt q (x_at rows r)) (λ r. bit-lt q (z_at rows r))

-- ---- the same as bits

module _ (rows : List ℕ) (from many : ℕ) where
  pub pair-bits : (p : Pauli) (a : ℕ) (o : Pauli) (b : ℕ) → flip_bits (pair p a o b) rows from many ≡ bit_xor (flip_bits (pauli p a) rows from many) (flip_bits (pauli o b) rows from many)
  unfolding flip_bits flips_by
  pair-bits p a o b =
      packed-xor (λ r. flips p a (row_at rows r)) (λ r. flips-lt p a (row_at rows r)) (λ r. flips o b (row_at rows r)) (λ r. flips-lt o b (row_at rows r)) from many

  -- a loss flips nothing
  loss-bits : (q : ℕ) → flip_bits (loss q) rows from many ≡ 0
  unfolding flip_bits flips_by
  loss-bits q = packed-clear from many

  module _ (q : ℕ) where
    pub i-bits : flip_bits (pauli I q) rows from many ≡ 0
    unfolding flip_bits flips_by flips
    i-bits = packed-clear from many

    pub x-bits : flip_bits (pauli X q) rows from many ≡ packed (z_bit rows q) from many
    unfolding flip_bits flips_by flips
    x-bits = refl

    pub z-bits : flip_bits (pauli Z q) rows from many ≡ packed (x_bit rows q) from many
    unfolding flip_bits flips_by flips
    z-bits = refl

    pub y-bits : flip_bits (pauli Y q) rows from many ≡ bit_xor (packed (x_bit rows q) from many) (packed (z_bit rows q) from many)
    unfolding flip_bits flips_by flips
    y-bits = packed-xor (x_bit rows q) (λ r. bit-lt q (x_at rows r)) (z_bit rows q) (λ r. bit-lt q (z_at rows r)) from many

-- what a loss changes
pub loss-is : (n : ℕ) (rows : List ℕ) (q : ℕ) → loss_change q ≡ change_of usual_salts n (loss q) rows
unfolding change_of masks_of
loss-is n rows q = let low = low_rows n in rw (loss-bits rows 0 low q, loss-bits rows low (2 * n - low) q) refl
