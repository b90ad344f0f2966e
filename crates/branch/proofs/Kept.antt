-- Rows that nothing flips are as they were: put together again, row by row, they are the words they were taken from. Assumes nothing.
use mathlib.Core.Path.{◌≡◌, refl, sym, ap, ap₂, ◌∙◌}
use mathlib.Core.List.{List, ◌++◌, append_assoc, append-nil}
use mathlib.Core.Logic.{◌⊎◌, inl, inr, ⊎_elim}
use Prim.Native.Nat.{ℕ, zero, suc, ◌+◌, ◌*◌, ◌-◌, ◌≤◌, ◌<◌}
use native.Mathlib.Omega.{arith}
use lib.Bits.{bit_xor, xor_zero_r}
use lib.ListN.{length, take, drop, drop_of_length-le}
use lib.Seq.{get_or-take}
use Rattle.model.specs.Lists.{words_below}
use Rattle.model.specs.Entries.{Row, row_at, x_at, z_at, phase_at, row_words, rows_below, map_rows}
use Rattle.model.specs.Keys.{usual_salts, if_set}
use Rattle.model.specs.Changes.{flips_by, flipped_row}
use Rattle.model.specs.declared.BranchMutation.{BranchMutation}
use Rattle.model.specs.declared.BranchMutation.TheVariants.{Loss as loss}
use Rattle.changes.specs.Changes.{flip_bits, low_rows, change_of}
use Rattle.changes.specs.declared.Change.{Change}
use Rattle.changes.proofs.Packed.{packed_zero}
use Rattle.changes.proofs.Tables.{same-change}
use Rattle.branch.specs.Flips.{flipped_rows}
use Rattle.branch.specs.Onto.{onto, part}
use Rattle.branch.proofs.Rows.{row_first}
use Rattle.branch.proofs.Onto.{part_length}

-- rows that depend on the row number alone
pub rows_ext : (f g : ℕ → Row) (m : ℕ) → ((r : ℕ) → r < m → f r ≡ g r) → rows_below f m ≡ rows_below g m
unfolding words_below
rows_ext f g zero h = refl
rows_ext f g (suc m) h = ap₂ (λ (a b : List ℕ). a ++ b) (rows_ext f g m (λ r k. h r (omega arith))) (ap row_words (h m (omega arith)))

-- 2n rows are made of the first words
row-front : (n : ℕ) (rows : List ℕ) (r : ℕ) → r < 2 * n → row_at (take (3 * (2 * n)) rows) r ≡ row_at rows r
row-front n rows r h =
    let m = 3 * (2 * n) in
    ap₂ (λ (x z : ℕ). record { x = x; z = z; phase = phase_at (take m rows) r }) (get_or-take m rows (3 * r) 0 (omega arith)) (get_or-take m rows (3 * r + 1) 0 (omega arith))
    ∙ ap (λ (p : ℕ). record { x = x_at rows r; z = z_at rows r; phase = p }) (get_or-take m rows (3 * r + 2) 0 (omega arith))

pub rows-front : (n : ℕ) (f : Row → Row) (rows : List ℕ) → map_rows n f (take (3 * (2 * n)) rows) ≡ map_rows n f rows
unfolding map_rows
rows-front n f rows =
    let m = 3 * (2 * n) in
    rows_ext (λ r. f (row_at (take m rows) r)) (λ r. f (row_at rows r)) (2 * n) (λ r h. ap f (row-front n rows r h))

-- and so is what a mutation changes
pub change-front : (n : ℕ) (m : BranchMutation) (rows : List ℕ) → change_of usual_salts n m (take (3 * (2 * n)) rows) ≡ change_of usual_salts n m rows
change-front n m rows =
    same-change n (take (3 * (2 * n)) rows) rows (λ r h. (ap (λ (w : Row). w.x) (row-front n rows r h), ap (λ (w : Row). w.z) (row-front n rows r h))) m

-- rows taken apart and put together
rows_whole : (rows : List ℕ) (m : ℕ) → 3 * m ≤ length rows → rows_below (row_at rows) m ++ drop (3 * m) rows ≡ rows
unfolding words_below
rows_whole rows zero h = refl
rows_whole rows (suc m) h =
    let e : 3 * suc m ≡ 3 * (m + 1) = omega arith in
    append_assoc (rows_below (row_at rows) m) (row_words (row_at rows m)) (drop (3 * suc m) rows)
    ∙ ap (λ (k : ℕ). rows_below (row_at rows) m ++ (row_words (row_at rows m) ++ drop k rows)) e
    ∙ ap (λ (l : List ℕ). rows_below (row_at rows) m ++ l) (sym (row_first rows m (omega arith)))
    ∙ rows_whole rows m (omega arith)

-- a row that is not flipped
row_kept : (c : BranchMutation) (r : Row) → flips_by c r ≡ 0 → flipped_row c r ≡ r
unfolding flipped_row if_set
row_kept c r e = ap (λ (b : ℕ). record { x = r.x; z = r.z; phase = bit_xor r.phase (if_set b 2) }) e ∙ ap (λ (p : ℕ). record { x = r.x; z = r.z; phase = p }) (xor_zero_r r.phase)

-- rows each of which stays
rows-kept : (c : BranchMutation) (rows : List ℕ) (m : ℕ) → ((i : ℕ) → i < m → flips_by c (row_at rows i) ≡ 0) → length rows ≡ 3 * m
    → rows_below (λ i. flipped_row c (row_at rows i)) m ≡ rows
rows-kept c rows m k h =
    rows_ext (λ i. flipped_row c (row_at rows i)) (row_at rows) m (λ i l. row_kept c (row_at rows i) (k i l))
    ∙ sym (append-nil (rows_below (row_at rows) m))
    ∙ ap (λ (l : List ℕ). rows_below (row_at rows) m ++ l) (sym (drop_of_length-le rows {i = 3 * m} (omega arith)))
    ∙ rows_whole rows m (omega arith)

-- ---- a loss flips none of them

pub loss-rows : (n q : ℕ) (rows : List ℕ) → length rows ≡ 3 * (2 * n) → map_rows n (flipped_row (loss q)) rows ≡ rows
unfolding map_rows flips_by
loss-rows n q rows h = rows-kept (loss q) rows (2 * n) (λ r l. refl) h

-- ---- nor does a mutation that has no bit

pub rows-unflipped : (m : BranchMutation) (rows : ℕ) (p : List ℕ) → flip_bits m p 0 rows ≡ 0 → length p ≡ 3 * rows → flipped_rows m rows p ≡ p
unfolding flipped_rows flip_bits
rows-unflipped m rows p e h = rows-kept m p rows (λ i l. packed_zero (λ r. flips_by m (row_at p r)) 0 rows e i (omega arith) (omega arith)) h

-- copied as they are
lt-or-le : (i k : ℕ) → (i < k) ⊎ (k ≤ i)
lt-or-le i zero = inr (omega arith)
lt-or-le zero (suc k) = inl (omega arith)
lt-or-le (suc i) (suc k) = ⊎_elim (λ (h : i < k). inl (omega arith)) (λ (h : k ≤ i). inr (omega arith)) (lt-or-le i k)

module _ (n : ℕ) (m : BranchMutation) (from to : ℕ) (w : List ℕ) (c : Change) (f : c ≡ change_of usual_salts n m (drop from w)) (el : c.low ≡ 0) (eh : c.high ≡ 0) where
  none-flipped : n ≤ 64 → (i : ℕ) → i < 2 * n → flips_by m (row_at (drop from w) i) ≡ 0
  unfolding change_of flip_bits low_rows
  none-flipped b i l =
      ⊎_elim
      (λ (d : i < low_rows n). packed_zero (λ r. flips_by m (row_at (drop from w) r)) 0 (low_rows n) (sym (ap (λ (x : Change). x.low) f) ∙ el) i (omega arith) (omega arith))
      (λ (d : low_rows n ≤ i). packed_zero (λ r. flips_by m (row_at (drop from w) r)) (low_rows n) (2 * n - low_rows n) (sym (ap (λ (x : Change). x.high) f) ∙ eh) i d (omega arith))
      (lt-or-le i (low_rows n))

  pub copied-unflipped : {l : List ℕ} → n ≤ 64 → from + 3 * (2 * n) ≤ length w → l ≡ onto to (part from (3 * (2 * n)) w) w → l ≡ onto to (map_rows n (flipped_row m) (drop from w)) w
  unfolding map_rows
  copied-unflipped b h k =
      let p = part from (3 * (2 * n)) w in
      k
      ∙ ap (λ (x : List ℕ). onto to x w)
      (sym (rows-kept m p (2 * n) (λ i l. ap (flips_by m) (row-front n (drop from w) i l) ∙ none-flipped b i l) (part_length from to w (3 * (2 * n)) h)) ∙ rows-front n (flipped_row m) (drop from w))
