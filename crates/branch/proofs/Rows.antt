-- Rows taken from a list of words. Assumes nothing.
use mathlib.Core.Path.{◌≡◌, ap, ◌∙◌}
use mathlib.Core.List.{List, ◌∷◌}
use Prim.Native.Nat.{ℕ, suc, ◌+◌, ◌*◌, ◌<◌}
use native.Mathlib.Omega.{arith}
use lib.ListN.{length, get_or, drop}
use lib.Seq.{drop-cons}
use Rattle.model.specs.Entries.{x_at, z_at, phase_at}

-- the word at j, and those from the next one on
drop-next : (l : List ℕ) (j k : ℕ) → j < length l → suc j ≡ k → drop j l ≡ get_or l j 0 ∷ drop k l
drop-next l j k h e = drop-cons l j 0 h ∙ ap (λ (i : ℕ). get_or l j 0 ∷ drop i l) e

-- row i's words, and those after them
pub row_first : (rows : List ℕ) (i : ℕ) → 3 * i + 2 < length rows → drop (3 * i) rows ≡ x_at rows i ∷ z_at rows i ∷ phase_at rows i ∷ drop (3 * (i + 1)) rows
row_first rows i h =
    drop-next rows (3 * i) (3 * i + 1) (omega arith) (omega arith)
    ∙ ap (λ (l : List ℕ). x_at rows i ∷ l)
    (drop-next rows (3 * i + 1) (3 * i + 2) (omega arith) (omega arith)
    ∙ ap (λ (l : List ℕ). z_at rows i ∷ l) (drop-next rows (3 * i + 2) (3 * (i + 1)) h (omega arith)))
