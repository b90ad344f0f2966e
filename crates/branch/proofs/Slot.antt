-- A branch made in a slot past its parent: its head, its coefficients and its rows, written one after the other, are its words. Assumes nothing.
use mathlib.Core.Path.{◌≡◌, refl, sym, ap, ap₂, ◌∙◌}
use mathlib.Core.List.{List, [], ◌∷◌, ◌++◌, append_assoc}
use Prim.Native.Nat.{ℕ, zero, suc, ◌+◌, ◌*◌, ◌^◌, ◌≤◌, ◌<◌}
use native.Mathlib.Nat.{suc-add, zero-add}
use native.Mathlib.Omega.{arith}
use lib.Bits.{bit_xor}
use lib.ListN.{length, take, drop, get_or, length-append}
use lib.Seq.{get_or-take, get_or-drop, drop-drop, take-nil}
use Rattle.model.specs.Entries.{Body, Keyed, map_rows, head_len, coefs_len, rows_len, entry_len, words_of, entry_of, stretch, with_stretch}
use Rattle.model.specs.Keys.{usual_salts}
use Rattle.model.specs.Changes.{flipped_row, changed_body, changed_entry, changed_keyed}
use Rattle.model.specs.Store.{reweighed}
use Rattle.model.specs.declared.BranchMutation.{BranchMutation}
use Rattle.model.specs.declared.BranchMutation.TheVariants.{Pauli as pauli, Pair as pair, Loss as loss}
use Rattle.model.specs.declared.Size.{Size}
use Rattle.model.proofs.Groups.{stride-le}
use Rattle.model.proofs.Rows.{map_rows-length}
use Rattle.changes.specs.Changes.{change_of}
use Rattle.changes.specs.declared.Change.{Change}
use Rattle.branch.specs.Flips.{loss_after}
use Rattle.branch.specs.Made.{made_branch}
use Rattle.branch.specs.Onto.{onto, part, head_words}
use Rattle.branch.proofs.Kept.{rows-front, change-front, loss-rows}
use Rattle.branch.proofs.Onto.{onto-part, onto-onto, part-front, part_length, lent-onto}

-- ---- rows

-- the rows and the loss word of what a mutation makes
pub rows-after : (n : ℕ) (m : BranchMutation) (loss count : ℕ) (coefs rows : List ℕ) → length rows ≡ 3 * (2 * n)
    → changed_body n m (record { loss = loss; count = count; coefs = coefs; rows = rows }) ≡ record { loss = loss_after m loss; count = count; coefs = coefs; rows = map_rows n (flipped_row m) rows }
unfolding changed_body loss_after
rows-after n (pauli p q) l count coefs rows h = refl
rows-after n (pair p a o b) l count coefs rows h = refl
rows-after n (loss q) l count coefs rows h = ap (λ (r : List ℕ). record { loss = bit_xor l (2 ^ q); count = count; coefs = coefs; rows = r }) (sym (loss-rows n q rows h))

-- ---- where they stand

drop-take : (a b : ℕ) (l : List ℕ) → drop a (take (a + b) l) ≡ take b (drop a l)
drop-take zero b l = ap (λ (k : ℕ). take k l) (zero-add b)
drop-take (suc a) b [] = ap (λ (k : ℕ). drop (suc a) (take k [])) (suc-add a b) ∙ sym (take-nil b)
drop-take (suc a) b (x ∷ l) = ap (λ (k : ℕ). drop (suc a) (take k (x ∷ l))) (suc-add a b) ∙ drop-take a b l

-- words, part by part
words-by : (weight : ℕ) {b : Body} {l c wk wk' pk pk' : ℕ} {cs rs : List ℕ} → b ≡ record { loss = l; count = c; coefs = cs; rows = rs } → wk ≡ wk' → pk ≡ pk'
    → words_of (record { entry = record { weight = weight; body = b }; word_key = wk; phase_loss_key = pk }) ≡ weight ∷ l ∷ wk' ∷ pk' ∷ c ∷ (cs ++ rs)
unfolding words_of
words-by weight e f g = rw (e, f, g)

module _ (s : Size) (m : BranchMutation) (weight : ℕ) (change : Change) (i slot : ℕ) (w : List ℕ) (h : i < slot) (k : slot * entry_len s + entry_len s ≤ length w) where
  abbrev from : ℕ
  from = i * entry_len s

  abbrev to : ℕ
  to = slot * entry_len s

  abbrev cs : ℕ
  cs = coefs_len s

  abbrev rs : ℕ
  rs = rows_len s

  abbrev parent : List ℕ
  parent = stretch s w i

  abbrev branch : Keyed
  branch = made_branch s m weight parent

  room : from + entry_len s ≤ to
  room = stride-le (entry_len s) i slot h

  word : (j : ℕ) → j < head_len → get_or parent j 0 ≡ get_or w (from + j) 0
  word j l = get_or-take (entry_len s) (drop from w) j 0 (omega arith) ∙ get_or-drop from w j 0

  coefs-are : take cs (drop head_len parent) ≡ part (from + head_len) cs w
  coefs-are = part-front head_len cs (entry_len s) (drop from w) (omega arith) ∙ ap (take cs) (drop-drop head_len from w)

  rows_are : drop (head_len + cs) parent ≡ part (from + head_len + cs) rs w
  rows_are =
      let e : from + (head_len + cs) ≡ from + head_len + cs = omega arith in
      drop-take (head_len + cs) rs (drop from w) ∙ ap (take rs) (drop-drop (head_len + cs) from w ∙ ap (λ (j : ℕ). drop j w) e)

  -- the three parts of its words
  abbrev head : List ℕ
  head = head_words m weight change.delta from w

  abbrev coefs : List ℕ
  coefs = part (from + head_len) cs w

  abbrev rows : List ℕ
  rows = map_rows s.n (flipped_row m) (part (from + head_len + cs) rs w)

  rows-length : length (drop (head_len + cs) parent) ≡ rs
  rows-length = ap length rows_are ∙ part_length (from + head_len + cs) to w rs (omega (arith, room))

  body_is : changed_body s.n m (record { loss = get_or parent 1 0; count = get_or parent 4 0; coefs = take cs (drop head_len parent); rows = drop (head_len + cs) parent })
      ≡ record { loss = loss_after m (get_or w (from + 1) 0); count = get_or w (from + 4) 0; coefs = coefs; rows = rows }
  body_is =
      let l : get_or parent 1 0 ≡ get_or w (from + 1) 0 = word 1 (omega arith) in
      let c : get_or parent 4 0 ≡ get_or w (from + 4) 0 = word 4 (omega arith) in
      rows-after s.n m (get_or parent 1 0) (get_or parent 4 0) (take cs (drop head_len parent)) (drop (head_len + cs) parent) rows-length
      ∙ ap₂ (λ (x y : ℕ). record { loss = loss_after m x; count = y; coefs = take cs (drop head_len parent); rows = map_rows s.n (flipped_row m) (drop (head_len + cs) parent) }) l c
      ∙ ap₂ (λ (x y : List ℕ). record { loss = loss_after m (get_or w (from + 1) 0); count = get_or w (from + 4) 0; coefs = x; rows = map_rows s.n (flipped_row m) y }) coefs-are rows_are

  -- what changes
  abbrev Changes : Type 0
  Changes = change ≡ change_of usual_salts s.n m (entry_of s parent).entry.body.rows

  words_are : Changes → words_of branch ≡ head ++ (coefs ++ rows)
  unfolding reweighed changed_keyed changed_entry entry_of change_of
  words_are d = words-by weight body_is (word 2 (omega arith)) (ap₂ bit_xor (word 3 (omega arith)) (sym (ap (λ (c : Change). c.delta) d)))

  -- the rows from which they are made, with the parent's head and coefficients copied, and what changes
  module _ {w₂ : List ℕ} (f₂ : w₂ ≡ onto to (head ++ coefs) w) (g : length (head ++ coefs) ≡ head_len + cs) where
    abbrev at : ℕ
    at = from + head_len + cs

    rows-there : part at rs w₂ ≡ part at rs w
    rows-there = ap (part at rs) f₂ ∙ onto-part to w (head ++ coefs) (omega arith) at rs (omega (arith, room))

    changes-there : Changes → change ≡ change_of usual_salts s.n m (drop at w₂)
    unfolding entry_of
    changes-there d = d ∙ ap (change_of usual_salts s.n m) (rows_are ∙ sym rows-there) ∙ change-front s.n m (drop at w₂)

  -- written one after the other
  pub made-in-slot : {w₁ w₂ w₃ : List ℕ} → Changes → w₁ ≡ onto to head w → w₂ ≡ onto (to + head_len) (part (from + head_len) cs w₁) w₁
      → (change ≡ change_of usual_salts s.n m (drop (from + head_len + cs) w₂) → w₃ ≡ onto (to + head_len + cs) (map_rows s.n (flipped_row m) (drop (from + head_len + cs) w₂)) w₂)
      → w₃ ≡ with_stretch (entry_len s) slot w (words_of branch)
  made-in-slot {w₁} {w₂} {w₃} d e₁ e₂ e₃ =
      let b : length coefs ≡ cs = part_length (from + head_len) to w cs (omega (arith, room)) in
      let g : length (head ++ coefs) ≡ head_len + cs = length-append head coefs ∙ ap (λ (j : ℕ). head_len + j) b in
      let r : length rows ≡ rs = map_rows-length s.n (flipped_row m) (part (from + head_len + cs) rs w) in
      let c₁ : part (from + head_len) cs w₁ ≡ coefs = ap (part (from + head_len) cs) e₁ ∙ onto-part to w head (omega arith) (from + head_len) cs (omega (arith, room)) in
      let f₂ : w₂ ≡ onto to (head ++ coefs) w = e₂ ∙ ap₂ (λ (x y : List ℕ). onto (to + head_len) x y) c₁ e₁ ∙ onto-onto to w head coefs (to + head_len) refl (omega arith) in
      let c₂ : map_rows s.n (flipped_row m) (drop (from + head_len + cs) w₂) ≡ rows =
      sym (rows-front s.n (flipped_row m) (drop (from + head_len + cs) w₂)) ∙ ap (map_rows s.n (flipped_row m)) (rows-there f₂ g) in
      let at : to + head_len + cs ≡ to + length (head ++ coefs) = omega arith in
      e₃ (changes-there f₂ g d) ∙ ap₂ (λ (x y : List ℕ). onto (to + head_len + cs) x y) c₂ f₂
      ∙ onto-onto to w (head ++ coefs) rows (to + head_len + cs) at (omega arith)
      ∙ ap (λ (x : List ℕ). onto to x w) (append_assoc head coefs rows ∙ sym (words_are d))
      ∙ lent-onto (entry_len s) slot w (words_of branch) (ap length (words_are d) ∙ length-append head (coefs ++ rows) ∙ omega (arith, length-append coefs rows))

-- the parent ends before the slot, which ends within the store
pub rooms : (s : Size) {len : ℕ} (i slot : ℕ) (w : List ℕ) → len ≡ entry_len s → i < slot → slot * entry_len s + entry_len s ≤ length w
    → (i * len + len ≤ slot * len) × (slot * len + len ≤ length w)
rooms s i slot w e h l = rw e (stride-le (entry_len s) i slot h, l)
