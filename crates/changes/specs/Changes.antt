-- What a mutation changes of an entry: the masks of its phase-loss key, and which of its rows it flips, as bits. Assumes nothing.
use Rattle.std.specs.Prelude.{ℕ, zero, suc, min, ◌+◌, ◌*◌, ◌-◌, ◌<◌, ◌≡◌, List, [], ◌∷◌, ◌++◌, length, get_or}
use Rattle.std.specs.Int.Bits.{bit_xor}
use Rattle.model.specs.Entries.{row_at}
use Rattle.model.specs.Keys.{usual_salts, row_mask, mask_xor, x_bit, z_bit}
use Rattle.model.specs.Changes.{flips_by, masks_of}
use Rattle.model.specs.declared.BranchMutation.{BranchMutation}
use Rattle.model.specs.declared.BranchMutation.TheVariants.{Pauli as pauli}
use Rattle.model.specs.declared.Pauli.TheVariants.{I, X, Y, Z}
use Rattle.model.specs.declared.Salts.{Salts}
use Rattle.changes.specs.declared.Change.{Change}
use Rattle.changes.specs.declared.Walked.{Walked}

-- the sign masks of the first m rows
pub record SignMasks (s : Salts) (m : ℕ) (masks : List ℕ) : Type 0 where
  pub long : length masks ≡ 128
  pub each : (i : ℕ) → i < m → get_or masks i 0 ≡ row_mask i s.sign

-- ---- rows as bits

-- the bits f from, f (from + 1), .. of `many` rows in one word, the first one lowest
unfoldable pub packed : (ℕ → ℕ) → (from many : ℕ) → ℕ
packed f from zero = 0
packed f from (suc many) = packed f (suc from) many * 2 + f from

-- the rows that a mutation flips
unfoldable pub flip_bits : BranchMutation → List ℕ → (from many : ℕ) → ℕ
flip_bits m rows = packed (λ r. flips_by m (row_at rows r))

-- 2n rows take two words: the first 64 of them, and the rest
unfoldable pub low_rows : ℕ → ℕ
low_rows n = min (2 * n) 64

-- ---- what a mutation changes

unfoldable pub change_of : Salts → ℕ → BranchMutation → List ℕ → Change
change_of s n m rows = record { delta = masks_of s n m rows; low = flip_bits m rows 0 (low_rows n); high = flip_bits m rows (low_rows n) (2 * n - low_rows n) }

-- a loss: its mask, and no row
abbrev pub loss_change : ℕ → Change
loss_change q = record { delta = row_mask q usual_salts.loss; low = 0; high = 0 }

abbrev pub change_words : Change → List ℕ
change_words c = c.delta ∷ c.low ∷ c.high ∷ []

-- what I, X, Y and Z at qubit q change, three words each
unfoldable pub change_table : Salts → ℕ → List ℕ → ℕ → List ℕ
change_table s n rows q =
    change_words (change_of s n (pauli I q) rows) ++ change_words (change_of s n (pauli X q) rows) ++ change_words (change_of s n (pauli Y q) rows)
    ++ change_words (change_of s n (pauli Z q) rows)

-- ---- rows from `from` to `to`, walked

-- what their masks add to the sum of those before them, and their bits
pub record Walks (s : Salts) (rows : List ℕ) (q from to : ℕ) (w : Walked) : Type 0 where
  pub x_sum : bit_xor (mask_xor s.sign from (x_bit rows q)) w.x ≡ mask_xor s.sign to (x_bit rows q)
  pub z_sum : bit_xor (mask_xor s.sign from (z_bit rows q)) w.z ≡ mask_xor s.sign to (z_bit rows q)
  pub x_packed : w.xs ≡ packed (x_bit rows q) from (to - from)
  pub z_packed : w.zs ≡ packed (z_bit rows q) from (to - from)
