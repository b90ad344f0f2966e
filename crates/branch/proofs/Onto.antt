-- Words written over a stretch of a list, one after the other: what is written next, what is read before them, and their length.
-- Assumes nothing.
use mathlib.Core.Path.{◌≡◌, refl, sym, ap, ap₂, ◌∙◌}
use mathlib.Core.List.{List, [], ◌∷◌, ◌++◌, append_assoc}
use Prim.Native.Nat.{ℕ, zero, suc, ◌+◌, ◌*◌, ◌-◌, ◌≤◌, ◌<◌}
use native.Mathlib.Nat.{add-zero}
use native.Mathlib.Numerals.{add-one}
use native.Mathlib.Omega.{arith}
use lib.Bits.{bit_xor}
use lib.ListN.{length, take, drop, get_or, set, length-append, length-drop, take-append-drop}
use lib.Seq.{length-take-le, take_at, drop_at, set_at, drop-cons, drop-drop, take-take, get_or-take, get_or-drop, paste}
use borrow.Rule.Slice.PartMut.{Post-is}
use Rattle.model.specs.Lists.{words_below}
use Rattle.model.specs.Entries.{row_at, row_words, rows_below, with_stretch}
use Rattle.model.specs.Keys.{if_set}
use Rattle.model.specs.Changes.{flips_by, flipped_row}
use Rattle.model.specs.declared.BranchMutation.{BranchMutation}
use Rattle.model.proofs.Rows.{words_below-length}
use Rattle.branch.specs.Onto.{onto, part}

-- a part of what stands in front
pub part-front : (from len to : ℕ) (l : List ℕ) → from + len ≤ to → part from len (take to l) ≡ part from len l
part-front zero len to l h = take-take len to l (omega arith)
part-front (suc from) len zero l h = absurd (omega arith)
part-front (suc from) len (suc to) [] h = refl
part-front (suc from) len (suc to) (y ∷ l) h = part-front from len to l (omega arith)

module _ (to : ℕ) (w : List ℕ) where
  pub onto-none : w ≡ onto to [] w
  unfolding onto
  onto-none = sym (ap (λ (k : ℕ). take to w ++ drop k w) (add-zero to) ∙ take-append-drop to w)

  module _ (x : List ℕ) where
    module _ (h : to + length x ≤ length w) where
      front : length (take to w) ≡ to
      front = length-take-le to w (omega arith)

      -- what stands before them is as it was
      before : take to (onto to x w) ≡ take to w
      unfolding onto
      before = take_at (take to w) (x ++ drop (to + length x) w) to front

      pub onto-read : (p : ℕ) → p < to → get_or (onto to x w) p 0 ≡ get_or w p 0
      onto-read p l = sym (get_or-take to (onto to x w) p 0 l) ∙ ap (λ (v : List ℕ). get_or v p 0) before ∙ get_or-take to w p 0 l

      pub onto-part : (from len : ℕ) → from + len ≤ to → part from len (onto to x w) ≡ part from len w
      onto-part from len l = sym (part-front from len to (onto to x w) l) ∙ ap (part from len) before ∙ part-front from len to w l

      -- what comes up to their end, and past it
      both-length : length (take to w ++ x) ≡ to + length x
      both-length = length-append (take to w) x ∙ ap (λ (k : ℕ). k + length x) front

      two-parts : onto to x w ≡ (take to w ++ x) ++ drop (to + length x) w
      unfolding onto
      two-parts = sym (append_assoc (take to w) x (drop (to + length x) w))

    -- one word more
    pub onto-next : (v : ℕ) → to + length x < length w → set (onto to x w) (to + length x) v ≡ onto to (x ++ v ∷ []) w
    unfolding onto
    onto-next v h =
        let n = to + length x in
        let e : length (x ++ v ∷ []) ≡ length x + 1 = length-append x (v ∷ []) in
        let l : n ≤ length w = omega arith in
        let k : suc n ≡ to + length (x ++ v ∷ []) = omega arith in
        ap (λ (u : List ℕ). set u n v) (two-parts l ∙ ap (λ (u : List ℕ). (take to w ++ x) ++ u) (drop-cons w n 0 h))
        ∙ set_at (take to w ++ x) (get_or w n 0) (drop (suc n) w) v n (both-length l)
        ∙ append_assoc (take to w) x (v ∷ drop (suc n) w)
        ∙ ap (λ (u : List ℕ). take to w ++ u) (sym (append_assoc x (v ∷ []) (drop (suc n) w)))
        ∙ ap (λ (i : ℕ). take to w ++ ((x ++ v ∷ []) ++ drop i w)) k

  module _ (x : List ℕ) where
    -- three words more, at their places
    pub onto-three : (at a b c : ℕ) → at ≡ to + length x → at + 2 < length w → set (set (set (onto to x w) at a) (at + 1) b) (at + 2) c ≡ onto to (x ++ a ∷ b ∷ c ∷ []) w
    onto-three at a b c e h =
        let x₁ = x ++ a ∷ [] in
        let x₂ = x₁ ++ b ∷ [] in
        let l₁ : length x₁ ≡ length x + 1 = length-append x (a ∷ []) in
        let l₂ : length x₂ ≡ length x₁ + 1 = length-append x₁ (b ∷ []) in
        let e₁ : at + 1 ≡ to + length x₁ = omega arith in
        let e₂ : at + 2 ≡ to + length x₂ = omega arith in
        ap (λ (u : List ℕ). set (set u (at + 1) b) (at + 2) c) (ap (λ (i : ℕ). set (onto to x w) i a) e ∙ onto-next x a (omega arith))
        ∙ ap (λ (u : List ℕ). set u (at + 2) c) (ap (λ (i : ℕ). set (onto to x₁ w) i b) e₁ ∙ onto-next x₁ b (omega arith))
        ∙ ap (λ (i : ℕ). set (onto to x₂ w) i c) e₂ ∙ onto-next x₂ c (omega arith)
        ∙ ap (λ (u : List ℕ). onto to u w) (append_assoc x₁ (b ∷ []) (c ∷ []) ∙ append_assoc x (a ∷ []) (b ∷ c ∷ []))

    -- two stretches in a row
    pub onto-onto : (y : List ℕ) (at : ℕ) → at ≡ to + length x → to + length x ≤ length w → onto at y (onto to x w) ≡ onto to (x ++ y) w
    unfolding onto
    onto-onto y at e h =
        let n = to + length x in
        let k : n + length y ≡ to + length (x ++ y) = omega (arith, length-append x y) in
        ap (λ (k : ℕ). take k (onto to x w) ++ (y ++ drop (k + length y) (onto to x w))) e
        ∙ ap (λ (u : List ℕ). take n u ++ (y ++ drop (n + length y) u)) (two-parts x h)
        ∙ ap₂ (λ (u v : List ℕ). u ++ (y ++ v)) (take_at (take to w ++ x) (drop n w) n (both-length x h))
        (sym (drop-drop (length y) n ((take to w ++ x) ++ drop n w)) ∙ ap (drop (length y)) (drop_at (take to w ++ x) (drop n w) n (both-length x h)) ∙ drop-drop (length y) n w)
        ∙ append_assoc (take to w) x (y ++ drop (n + length y) w)
        ∙ ap (λ (u : List ℕ). take to w ++ u) (sym (append_assoc x y (drop (n + length y) w)))
        ∙ ap (λ (i : ℕ). take to w ++ ((x ++ y) ++ drop i w)) k

-- ---- what a branch's words are made of

module _ (from to : ℕ) (w : List ℕ) where
  pub part_length : (len : ℕ) → from + len ≤ length w → length (part from len w) ≡ len
  part_length len h = length-take-le len (drop from w) (omega (arith, length-drop from w))

  -- words copied from what stands in front
  pub part-copied : (len : ℕ) → from + len ≤ to → to + len ≤ length w → paste w to (drop from w) (from + len - from) ≡ onto to (part from len w) w
  unfolding onto
  part-copied len h k =
      let n : from + len - from ≡ len = omega arith in
      ap (paste w to (drop from w)) n
      ∙ append_assoc (take to w) (part from len w) (drop (to + len) w)
      ∙ ap (λ (i : ℕ). take to w ++ (part from len w ++ drop (to + i) w)) (sym (part_length len (omega arith)))

  -- rows copied with what the mutation leaves of their phases
  module _ (m : BranchMutation) where
    abbrev pub made : ℕ → List ℕ
    made r = rows_below (λ i. flipped_row m (row_at (drop from w) i)) r

    made-length : (r : ℕ) → length (made r) ≡ 3 * r
    made-length r = words_below-length 3 (λ i. row_words (flipped_row m (row_at (drop from w) i))) (λ i. refl) r

    pub rows_none : w ≡ onto to (made 0) w
    unfolding words_below
    rows_none = onto-none to w

    module _ {l : List ℕ} (r : ℕ) (e : l ≡ onto to (made r) w) (h : from + 3 * r + 2 < to) (k : to + 3 * r + 2 < length w) where
      read : (j : ℕ) → j < 3 → get_or l (from + 3 * r + j) 0 ≡ get_or (drop from w) (3 * r + j) 0
      read j b =
          let i : from + (3 * r + j) ≡ from + 3 * r + j = omega arith in
          ap (λ (u : List ℕ). get_or u (from + 3 * r + j) 0) e ∙ onto-read to w (made r) (omega (arith, made-length r)) (from + 3 * r + j) (omega arith)
          ∙ sym (get_or-drop from w (3 * r + j) 0 ∙ ap (λ (n : ℕ). get_or w n 0) i)

      pub rows_next : {t : ℕ} → t ≡ if_set (flips_by m (row_at (drop from w) r)) 2
          → set (set (set l (to + 3 * r) (get_or l (from + 3 * r) 0)) (to + 3 * r + 1) (get_or l (from + 3 * r + 1) 0)) (to + 3 * r + 2) (bit_xor (get_or l (from + 3 * r + 2) 0) t)
          ≡ onto to (made (r + 1)) w
      unfolding words_below flipped_row
      rows_next {t} p =
          let row = row_at (drop from w) r in
          let here : from + 3 * r + 0 ≡ from + 3 * r = omega arith in
          let there : 3 * r + 0 ≡ 3 * r = omega arith in
          let x : get_or l (from + 3 * r) 0 ≡ row.x = ap (λ (i : ℕ). get_or l i 0) (sym here) ∙ read 0 (omega arith) ∙ ap (λ (i : ℕ). get_or (drop from w) i 0) there in
          let z : get_or l (from + 3 * r + 1) 0 ≡ row.z = read 1 (omega arith) in
          let a = get_or l (from + 3 * r) 0 in
          let b = get_or l (from + 3 * r + 1) 0 in
          let c = get_or l (from + 3 * r + 2) 0 in
          let v : bit_xor c t ≡ (flipped_row m row).phase = ap₂ bit_xor (read 2 (omega arith)) p in
          ap (λ (u : List ℕ). set (set (set u (to + 3 * r) a) (to + 3 * r + 1) b) (to + 3 * r + 2) (bit_xor c t)) e
          ∙ onto-three to w (made r) (to + 3 * r) a b (bit_xor c t) (ap (λ (i : ℕ). to + i) (sym (made-length r))) k
          ∙ ap (λ (u : List ℕ). onto to (made r ++ u) w) (ap₂ (λ (x z : ℕ). x ∷ z ∷ bit_xor c t ∷ []) x z ∙ ap (λ (p : ℕ). row.x ∷ row.z ∷ p ∷ []) v)
          ∙ ap (λ (i : ℕ). onto to (made i) w) (sym (add-one r))

-- the head
pub head-made : (to : ℕ) (w : List ℕ) (a b c d e : ℕ) → to + 5 ≤ length w
    → set (set (set (set (set w to a) (to + 1) b) (to + 2) c) (to + 3) d) (to + 4) e ≡ onto to (a ∷ b ∷ c ∷ d ∷ e ∷ []) w
head-made to w a b c d e h =
    let first : set w to a ≡ onto to (a ∷ []) w = ap₂ (λ (u : List ℕ) (i : ℕ). set u i a) (onto-none to w) (sym (add-zero to)) ∙ onto-next to w [] a (omega arith) in
    ap (λ (u : List ℕ). set (set (set (set u (to + 1) b) (to + 2) c) (to + 3) d) (to + 4) e) first
    ∙ ap (λ (u : List ℕ). set (set (set u (to + 2) c) (to + 3) d) (to + 4) e) (onto-next to w (a ∷ []) b (omega arith))
    ∙ ap (λ (u : List ℕ). set (set u (to + 3) d) (to + 4) e) (onto-next to w (a ∷ b ∷ []) c (omega arith))
    ∙ ap (λ (u : List ℕ). set u (to + 4) e) (onto-next to w (a ∷ b ∷ c ∷ []) d (omega arith))
    ∙ onto-next to w (a ∷ b ∷ c ∷ d ∷ []) e (omega arith)

-- a slot that was lent, and came back as x
pub lent-onto : (k i : ℕ) (w x : List ℕ) → length x ≡ k → onto (i * k) x w ≡ with_stretch k i w x
unfolding onto
lent-onto k i w x h =
    ap (λ (n : ℕ). take (i * k) w ++ (x ++ drop (i * k + n) w)) h ∙ ap (λ (u : List ℕ). take (i * k) w ++ (x ++ u)) (sym (Post-is (i * k) (i * k + k) w (omega arith)))
