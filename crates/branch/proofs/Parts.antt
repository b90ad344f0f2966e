-- Rows copied in two parts: the second part is read from words that the first one left as they were. Assumes nothing.
use mathlib.Core.Path.{◌≡◌, refl, sym, ap, ap₂, ◌∙◌}
use mathlib.Core.List.{List, ◌++◌, append_assoc, append-nil}
use Prim.Native.Nat.{ℕ, zero, suc, ◌+◌, ◌*◌, ◌-◌, ◌≤◌, ◌<◌}
use native.Mathlib.Nat.{add-zero, add-suc}
use native.Mathlib.Omega.{arith}
use lib.ListN.{length, get_or, drop}
use lib.Seq.{get_or-drop}
use Rattle.model.specs.Lists.{words_below}
use Rattle.model.specs.Entries.{Row, row_at, x_at, z_at, phase_at, row_words, rows_below, map_rows}
use Rattle.model.specs.Keys.{usual_salts}
use Rattle.model.specs.Changes.{flips_by, flipped_row}
use Rattle.model.specs.declared.BranchMutation.{BranchMutation}
use Rattle.model.proofs.Rows.{words_below-length}
use Rattle.changes.specs.Changes.{flip_bits, low_rows, change_of}
use Rattle.changes.specs.declared.Change.{Change}
use Rattle.changes.proofs.ChangeTables.{low-few}
use Rattle.changes.proofs.Packed.{packed-ext, packed-shift}
use Rattle.branch.specs.Flips.{flipped_rows}
use Rattle.branch.specs.Onto.{onto}
use Rattle.branch.proofs.Kept.{rows_ext}
use Rattle.branch.proofs.Onto.{onto-read, onto-onto}

-- rows, part after part
rows_split : (f : ℕ → Row) (a b : ℕ) → rows_below f a ++ rows_below (λ i. f (a + i)) b ≡ rows_below f (a + b)
unfolding words_below
rows_split f a zero = append-nil (rows_below f a) ∙ ap (rows_below f) (sym (add-zero a))
rows_split f a (suc b) =
    sym (append_assoc (rows_below f a) (rows_below (λ i. f (a + i)) b) (row_words (f (a + b))))
    ∙ ap (λ (l : List ℕ). l ++ row_words (f (a + b))) (rows_split f a b) ∙ ap (rows_below f) (sym (add-suc a b))

module _ (n : ℕ) (few : n ≤ 64) (m : BranchMutation) (from to : ℕ) (w : List ℕ) (h : from + 3 * (2 * n) ≤ to) (k : to + 3 * (2 * n) ≤ length w) (c : Change)
    (f : c ≡ change_of usual_salts n m (drop from w)) {low : ℕ} (e : low ≡ low_rows n) where
  abbrev rest : ℕ
  rest = 2 * n - low

  abbrev first : List ℕ
  first = flipped_rows m low (drop from w)

  bounds : (low ≤ 2 * n) × (low ≤ 64) × (2 * n ≤ low + 64)
  bounds = low-few n few e

  first-long : length first ≡ 3 * low
  unfolding flipped_rows
  first-long = words_below-length 3 (λ i. row_words (flipped_row m (row_at (drop from w) i))) (λ i. refl) low

  -- its bits
  pub first-bits : c.low ≡ flip_bits m (drop from w) 0 low
  unfolding change_of
  first-bits = ap (λ (x : Change). x.low) f ∙ ap (flip_bits m (drop from w) 0) (sym e)

  module _ {w₁ : List ℕ} (e₁ : w₁ ≡ onto to first w) where
    -- the rows of the second part are as they were
    word-there : (r j : ℕ) → r < rest → j < 3 → get_or (drop (from + 3 * low) w₁) (3 * r + j) 0 ≡ get_or (drop from w) (3 * (low + r) + j) 0
    word-there r j l b =
        let i : from + 3 * low + (3 * r + j) ≡ from + (3 * (low + r) + j) = omega arith in
        get_or-drop (from + 3 * low) w₁ (3 * r + j) 0 ∙ ap₂ (λ (v : List ℕ) (p : ℕ). get_or v p 0) e₁ i
        ∙ onto-read to w first (omega (arith, first-long, bounds)) (from + (3 * (low + r) + j)) (omega (arith, bounds))
        ∙ sym (get_or-drop from w (3 * (low + r) + j) 0)

    row-there : (r : ℕ) → r < rest → row_at (drop (from + 3 * low) w₁) r ≡ row_at (drop from w) (low + r)
    row-there r l =
        let v = drop (from + 3 * low) w₁ in
        let here : 3 * r + 0 ≡ 3 * r = omega arith in
        let there : 3 * (low + r) + 0 ≡ 3 * (low + r) = omega arith in
        let x : x_at v r ≡ x_at (drop from w) (low + r) = ap (λ (p : ℕ). get_or v p 0) (sym here) ∙ word-there r 0 l (omega arith) ∙ ap (λ (p : ℕ). get_or (drop from w) p 0) there in
        ap₂ (λ (x z : ℕ). record { x = x; z = z; phase = phase_at v r }) x (word-there r 1 l (omega arith))
        ∙ ap (λ (p : ℕ). record { x = x_at (drop from w) (low + r); z = z_at (drop from w) (low + r); phase = p }) (word-there r 2 l (omega arith))

    pub second-bits : c.high ≡ flip_bits m (drop (from + 3 * low) w₁) 0 rest
    unfolding change_of flip_bits
    second-bits =
        ap (λ (x : Change). x.high) f
        ∙ ap (λ (x : ℕ). flip_bits m (drop from w) x (2 * n - x)) (sym e)
        ∙ ap (λ (x : ℕ). flip_bits m (drop from w) x rest) (sym (add-zero low))
        ∙ sym
        (packed-ext (λ r. flips_by m (row_at (drop (from + 3 * low) w₁) r)) (λ r. flips_by m (row_at (drop from w) (low + r))) 0 rest (λ r p q. ap (flips_by m) (row-there r (omega arith)))
        ∙ packed-shift (λ r. flips_by m (row_at (drop from w) r)) low 0 rest)

    pub both-copied : {w₂ : List ℕ} → w₂ ≡ onto (to + 3 * low) (flipped_rows m rest (drop (from + 3 * low) w₁)) w₁ → w₂ ≡ onto to (map_rows n (flipped_row m) (drop from w)) w
    unfolding flipped_rows map_rows
    both-copied e₂ =
        let g : ℕ → Row = λ i. flipped_row m (row_at (drop from w) i) in
        let second : flipped_rows m rest (drop (from + 3 * low) w₁) ≡ rows_below (λ i. g (low + i)) rest =
        rows_ext (λ i. flipped_row m (row_at (drop (from + 3 * low) w₁) i)) (λ i. g (low + i)) rest (λ i l. ap (flipped_row m) (row-there i l)) in
        let all : low + rest ≡ 2 * n = omega (arith, bounds) in
        e₂ ∙ ap₂ (λ (x v : List ℕ). onto (to + 3 * low) x v) second e₁
        ∙ onto-onto to w first (rows_below (λ i. g (low + i)) rest) (to + 3 * low) (ap (λ (x : ℕ). to + x) (sym first-long)) (omega (arith, first-long, bounds))
        ∙ ap (λ (l : List ℕ). onto to l w) (rows_split g low rest ∙ ap (rows_below g) all)
