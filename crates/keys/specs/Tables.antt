-- Masks in a table, and the word key of rows. Assumes nothing.
use Rattle.std.specs.Prelude.{◌≡◌, ℕ, ◌+◌, ◌*◌, ◌<◌, List, length, slice_index}
use Rattle.model.specs.Entries.{x_at, z_at}
use Rattle.model.specs.Keys.{phase_mask, word_key}
use Rattle.model.specs.declared.Salts.{Salts}

-- the phase masks of m rows: four words a row, one for each phase
pub record PhaseMasks (s : Salts) (m : ℕ) (t : List ℕ) : Type 0 where
  pub words : length t ≡ 512
  pub at : (i p : ℕ) → i < m → p < 4 → slice_index t (4 * i + p) ≡ phase_mask s i p

-- the word key of m rows
abbrev pub key_of_rows : ℕ → List ℕ → ℕ
key_of_rows m rows = word_key m (x_at rows) (z_at rows)
