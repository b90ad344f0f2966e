-- Rows that a function of the row number makes: row r's words are those that the function gives at r, since each piece has three words.
-- Assumes nothing.
use mathlib.Core.Path.{◌≡◌, refl, sym, ap, ap₂, ◌∙◌}
use mathlib.Core.List.{List, ◌++◌}
use mathlib.Core.Logic.{⊎_elim}
use Prim.Native.Nat.{ℕ, zero, suc, ◌+◌, ◌*◌, ◌<◌}
use native.Mathlib.Nat.{eq-or-lt_of_le, le_of_suc-le-suc, mul-zero, mul-suc, mul-le-mul_left}
use native.Mathlib.Omega.{arith}
use lib.ListN.{length, get_or, length-append, get_or-append}
use lib.Seq.{get_or-append-add}
use Rattle.model.specs.Lists.{words_below}
use Rattle.model.specs.Entries.{Row, row_at, x_at, z_at, phase_at, row_words, rows_below, map_rows}

-- ---- pieces of k words

module _ (k : ℕ) (f : ℕ → List ℕ) (pieces : (r : ℕ) → length (f r) ≡ k) where
  pub words_below-length : (m : ℕ) → length (words_below f m) ≡ k * m
  unfolding words_below
  words_below-length zero = sym (mul-zero k)
  words_below-length (suc m) = length-append (words_below f m) (f m) ∙ ap₂ ◌+◌ (words_below-length m) (pieces m) ∙ sym (mul-suc k m)

  -- word j of piece r
  pub words_below-at : (m r j : ℕ) → r < m → j < k → get_or (words_below f m) (k * r + j) 0 ≡ get_or (f r) j 0
  unfolding words_below
  words_below-at zero r j h l = omega arith
  words_below-at (suc m) r j h l =
      ⊎_elim
      (λ (e : r ≡ m).
      ap (λ (i : ℕ). get_or (words_below f m ++ f m) (i + j) 0) (ap (λ (i : ℕ). k * i) e ∙ sym (words_below-length m))
      ∙ get_or-append-add (words_below f m) (f m) j 0 ∙ ap (λ (i : ℕ). get_or (f i) j 0) (sym e))
      (λ (w : r < m).
      get_or-append (words_below f m) (f m) 0 (k * r + j) (omega (arith, words_below-length m, mul-suc k r, mul-le-mul_left k w))
      ∙ words_below-at m r j w l)
      (eq-or-lt_of_le (le_of_suc-le-suc h))

-- ---- rows

pub same_row : {a b c x z p : ℕ} → a ≡ x → b ≡ z → c ≡ p → ◌≡◌ {A = Row} (record { x = a; z = b; phase = c }) (record { x = x; z = z; phase = p })
same_row ea eb ec = cc

-- row r of those that f gives is f r
module _ (f : ℕ → Row) (m : ℕ) where
  pub rows_below-length : length (rows_below f m) ≡ 3 * m
  rows_below-length = words_below-length 3 (λ r. row_words (f r)) (λ r. refl) m

  rows_below-word : (r j : ℕ) → r < m → j < 3 → get_or (rows_below f m) (3 * r + j) 0 ≡ get_or (row_words (f r)) j 0
  rows_below-word = words_below-at 3 (λ r. row_words (f r)) (λ r. refl) m

  rows_below-x : (r : ℕ) → r < m → x_at (rows_below f m) r ≡ (f r).x
  rows_below-x r h = ap (λ (i : ℕ). get_or (rows_below f m) i 0) (omega arith) ∙ rows_below-word r 0 h (omega arith)

  pub rows_below-row : (r : ℕ) → r < m → row_at (rows_below f m) r ≡ f r
  rows_below-row r h = same_row (rows_below-x r h) (rows_below-word r 1 h (omega arith)) (rows_below-word r 2 h (omega arith))

-- .. and of those that f makes of rows, what f makes of row r
module _ (n : ℕ) (f : Row → Row) (rows : List ℕ) where
  pub map_rows-length : length (map_rows n f rows) ≡ 3 * (2 * n)
  unfolding map_rows
  map_rows-length = rows_below-length (λ r. f (row_at rows r)) (2 * n)

  pub map_rows-row : (r : ℕ) → r < 2 * n → row_at (map_rows n f rows) r ≡ f (row_at rows r)
  unfolding map_rows
  map_rows-row = rows_below-row (λ r. f (row_at rows r)) (2 * n)

  pub map_rows-x : (r : ℕ) → r < 2 * n → x_at (map_rows n f rows) r ≡ (f (row_at rows r)).x
  map_rows-x r h = ap (λ (w : Row). w.x) (map_rows-row r h)

  pub map_rows-z : (r : ℕ) → r < 2 * n → z_at (map_rows n f rows) r ≡ (f (row_at rows r)).z
  map_rows-z r h = ap (λ (w : Row). w.z) (map_rows-row r h)

  pub map_rows-phase : (r : ℕ) → r < 2 * n → phase_at (map_rows n f rows) r ≡ (f (row_at rows r)).phase
  map_rows-phase r h = ap (λ (w : Row). w.phase) (map_rows-row r h)
