-- What a gate's writes leave of a row's three words, and what the loop over rows has made of them so far. Assumes nothing.
use mathlib.Core.Path.{◌≡◌, refl, sym, ap, ap₂, ◌∙◌}
use mathlib.Core.List.{List, [], ◌∷◌, ◌++◌, append_assoc, append-nil}
use Prim.Native.Nat.{ℕ, zero, suc, ◌+◌, ◌*◌, ◌-◌, ◌<◌, ◌≤◌}
use native.Mathlib.Nat.{le_antisymm, suc-mul}
use native.Mathlib.Omega.{arith}
use lib.ListN.{length, take, drop, get_or, length-drop, drop_of_length-le}
use lib.Seq.{take_at, take-add, length-take-le, drop_at, drop-drop, get_or-take, get_or-drop}
use Rattle.model.specs.Lists.{words_below}
use Rattle.model.specs.Entries.{Row, row_at, row_words, rows_below, with_stretch}
use Rattle.model.proofs.Rows.{words_below-length, same_row}

-- a row's words
pub data Three : List ℕ → Type 0 where
  three : (a b c : ℕ) → Three (a ∷ b ∷ c ∷ [])

pub three-words : (l : List ℕ) → length l ≡ 3 → Three l
three-words [] e = absurd (omega arith)
three-words (a ∷ []) e = absurd (omega arith)
three-words (a ∷ b ∷ []) e = absurd (omega arith)
three-words (a ∷ b ∷ c ∷ []) e = three a b c
three-words (a ∷ b ∷ c ∷ d ∷ l) e = absurd (omega arith)

-- ---- rows

-- row r of a part that begins where row i − r does
pub part-row : (l : List ℕ) (at k i r : ℕ) → 3 * r + 3 ≤ k → at + 3 * r ≡ 3 * i → row_at (take k (drop at l)) r ≡ row_at l i
part-row l at k i r h e =
    same_row (word (3 * r) (3 * i) (omega arith) (omega arith)) (word (3 * r + 1) (3 * i + 1) (omega arith) (omega arith)) (word (3 * r + 2) (3 * i + 2) (omega arith) (omega arith))
  where
    word : (j to : ℕ) → j < k → at + j ≡ to → get_or (take k (drop at l)) j 0 ≡ get_or l to 0
    word j to g p = get_or-take k (drop at l) j 0 g ∙ get_or-drop at l j 0 ∙ ap (λ (n : ℕ). get_or l n 0) p

pub rows_ext : (f g : ℕ → Row) (m : ℕ) → ((r : ℕ) → r < m → f r ≡ g r) → rows_below f m ≡ rows_below g m
unfolding words_below
rows_ext f g zero h = refl
rows_ext f g (suc m) h = ap₂ (λ (a : List ℕ) (r : Row). a ++ row_words r) (rows_ext f g m (λ r l. h r (omega arith))) (h m (omega arith))

own_row : {l : List ℕ} → Three l → l ≡ row_words (row_at l 0)
own_row (three a b c) = refl

-- rows made of themselves
pub own-rows : (rows : List ℕ) (m : ℕ) → m * 3 ≤ length rows → rows_below (row_at rows) m ≡ take (m * 3) rows
unfolding words_below
own-rows rows zero h = refl
own-rows rows (suc m) h =
    let e : suc m * 3 ≡ m * 3 + 3 = suc-mul m 3 in
    let k : length (take 3 (drop (m * 3) rows)) ≡ 3 = length-take-le 3 (drop (m * 3) rows) (omega (arith, length-drop (m * 3) rows)) in
    let last : take 3 (drop (m * 3) rows) ≡ row_words (row_at rows m) = own_row (three-words _ k) ∙ ap row_words (part-row rows (m * 3) 3 m 0 (omega arith) (omega arith)) in
    ap₂ (λ (a d : List ℕ). a ++ d) (own-rows rows m (omega arith)) (sym last) ∙ sym (take-add (m * 3) 3 rows) ∙ ap (λ (i : ℕ). take i rows) (sym e)

-- ---- the loop over rows

module _ (f : Row → Row) (old : List ℕ) where
  abbrev made : ℕ → List ℕ
  made i = rows_below (λ r. f (row_at old r)) i

  -- the first i rows as f makes them, and the old words
  abbrev pub so_far : ℕ → List ℕ
  so_far i = made i ++ drop (i * 3) old

  made-length : (i : ℕ) → length (made i) ≡ i * 3
  made-length i = words_below-length 3 (λ r. row_words (f (row_at old r))) (λ r. refl) i ∙ (omega arith)

  pub none_yet : old ≡ so_far 0
  unfolding words_below
  none_yet = refl

  -- rows 2i and 2i + 1 are lent, and come back as f makes them
  pub pair-next : {w new : List ℕ} (i : ℕ) → w ≡ so_far (2 * i) → new ≡ rows_below (λ r. f (row_at (take (i * 6 + 6 - i * 6) (drop (i * 6) w)) r)) 2
      → with_stretch 6 i w new ≡ so_far (2 * (i + 1))
  unfolding words_below
  pair-next {w} {new} i e p =
      let k = i * 6 + 6 - i * 6 in
      let at = i * 6 in
      let rest = drop (2 * i * 3) old in
      let long : length (made (2 * i)) ≡ at = made-length (2 * i) ∙ (omega arith) in
      let before : take at w ≡ made (2 * i) = ap (take at) e ∙ take_at (made (2 * i)) rest at long in
      let behind : drop at w ≡ rest = ap (drop at) e ∙ drop_at (made (2 * i)) rest at long in
      let end : 2 * i * 3 + k ≡ 2 * (i + 1) * 3 = omega arith in
      let past : drop k rest ≡ drop (2 * (i + 1) * 3) old = drop-drop k (2 * i * 3) old ∙ ap (λ (n : ℕ). drop n old) end in
      let first : row_at (take k (drop at w)) 0 ≡ row_at old (2 * i) = ap (λ (l : List ℕ). row_at (take k l) 0) behind ∙ part-row old (2 * i * 3) k (2 * i) 0 (omega arith) (omega arith) in
      let second : row_at (take k (drop at w)) 1 ≡ row_at old (suc (2 * i)) = ap (λ (l : List ℕ). row_at (take k l) 1) behind ∙ part-row old (2 * i * 3) k (suc (2 * i)) 1 (omega arith) (omega arith) in
      let two : 2 * (i + 1) ≡ suc (suc (2 * i)) = omega arith in
      let a = row_words (f (row_at old (2 * i))) in
      let b = row_words (f (row_at old (suc (2 * i)))) in
      let rest' = drop (2 * (i + 1) * 3) old in
      ap₂ (λ (v d : List ℕ). v ++ (new ++ drop k d)) before behind
      ∙ ap₂ (λ (v d : List ℕ). made (2 * i) ++ (v ++ d)) (p ∙ ap₂ (λ (x y : Row). row_words (f x) ++ row_words (f y)) first second) past
      ∙ sym (append_assoc (made (2 * i)) (a ++ b) rest')
      ∙ ap (λ (v : List ℕ). v ++ rest') (sym (append_assoc (made (2 * i)) a b))
      ∙ ap (λ (m : ℕ). made m ++ rest') (sym two)

  pub all-rows : {w : List ℕ} (i m : ℕ) → i ≤ m → m ≤ i → length old ≡ 3 * m → w ≡ so_far i → w ≡ made m
  all-rows i m p q l e =
      let none : length old ≤ m * 3 = omega arith in
      e ∙ ap so_far (le_antisymm p q) ∙ ap (λ (d : List ℕ). made m ++ d) (drop_of_length-le old none) ∙ append-nil (made m)
