-- A line is read as the numbers that it was written with, and so are lines; nothing else is read. Assumes nothing.
use mathlib.Core.Path.{◌≡◌, refl, sym, ap, ap₂, ◌∙◌}
use mathlib.Core.Bool.{Bool, true, false, cond, ◌&&◌}
use mathlib.Core.List.{List, [], ◌∷◌, ◌++◌, map, append_assoc, append-nil}
use mathlib.Core.Option.{Option, none, some}
use Prim.Native.Nat.{ℕ, zero, suc, ◌+◌, ◌*◌, ◌/◌, ◌^◌, ◌<◌, ◌≤◌}
use native.Mathlib.Nat.{zero-mul, suc-mul, div-eq_of_lt-le, div-add-mod', mod-lt, add-mul, one-mul}
use native.Mathlib.Omega.{arith}
use lib.Dec.{eqb, ltb}
use lib.ListN.{length, take, drop, get_or, length-drop, take-append-drop}
use lib.Seq.{take_at, drop_at, drop-drop}
use borrow.Author.Tests.{eq-eqb, eqb-true, lt-ltb, ltb-true}
use Rattle.model.specs.Lists.{every, groups, joined}
use Rattle.model.specs.Sheet.{line_end, columns, field, line, line_len, same_words, field_value, also, line_fields, all_some, lines_fields}
use Rattle.model.proofs.Lists.{and_both, every-at}
use Rattle.model.proofs.Sheet.{length-field, line-cons, length-line}
use Rattle.fields.proofs.Values.{same-eq, field-read, read-field}
use Rattle.fields.proofs.Pieces.{every_drop, pieces-length, pieces-from, pieces-at, pieces-cut}

-- ---- what a field and a line can hold

-- a number below 2^64
abbrev pub is_word : ℕ → Bool
is_word v = ltb v (2 ^ 64)

-- m numbers, each below 2^64
unfoldable pub numbers : ℕ → List ℕ → Bool
numbers m vs = eqb (length vs) m && every is_word vs

-- .. by its two parts
pub numbers-are : (m : ℕ) (vs : List ℕ) → length vs ≡ m → every is_word vs ≡ true → numbers m vs ≡ true
unfolding numbers
numbers-are m vs l w = rw (eq-eqb (length vs) m l) w

-- there are m of them
pub numbers-length : (m : ℕ) (vs : List ℕ) → numbers m vs ≡ true → length vs ≡ m
unfolding numbers
numbers-length m vs e = eqb-true (length vs) m (and_both (eqb (length vs) m) (every is_word vs) e).0

-- each is below 2^64
pub numbers-words : (m : ℕ) (vs : List ℕ) → numbers m vs ≡ true → every is_word vs ≡ true
unfolding numbers
numbers-words m vs e = (and_both (eqb (length vs) m) (every is_word vs) e).1

-- ---- two readings in one

-- both gave something, and what was made of it
pub record Both {A B C : Type 0} (f : A → B → C) (o : Option A) (q : Option B) (r : C) : Type 0 where
  pub one : A
  pub other : B
  pub first : o ≡ some one
  pub second : q ≡ some other
  pub made : f one other ≡ r

-- one reading after the other gives something only if both do
pub both : {A B C : Type 0} (f : A → B → C) (o : Option A) (q : Option B) (r : C) → also f o q ≡ some r → Both f o q r
unfolding also
both f none q r e = let z : ◌≡◌ {A = ℕ} 0 1 = cc in absurd (omega arith)
both f (some a) none r e = let z : ◌≡◌ {A = ℕ} 0 1 = cc in absurd (omega arith)
both f (some a) (some b) r e = record { one = a; other = b; first = refl; second = refl; made = cc }

-- ---- a line

-- the bytes of a line of m numbers
numbers-line : (m : ℕ) (vs : List ℕ) → numbers m vs ≡ true → length (line vs) ≡ line_len m
numbers-line m vs e = length-line vs ∙ ap line_len (numbers-length m vs e)

-- the line of numbers below 2^64 is read as those numbers
pub line_read : (vs : List ℕ) → every is_word vs ≡ true → line_fields (length vs) (line vs) ≡ some vs
unfolding line_fields every also line joined same_words
line_read [] e = refl
line_read (v ∷ vs) e =
    let b = and_both (is_word v) (every is_word vs) e in
    let t : take columns (line (v ∷ vs)) ≡ field v = ap (take columns) (line-cons v vs) ∙ take_at (field v) (line vs) columns (length-field v) in
    let d : drop columns (line (v ∷ vs)) ≡ line vs = ap (drop columns) (line-cons v vs) ∙ drop_at (field v) (line vs) columns (length-field v) in
    ap₂ (also (λ x xs. x ∷ xs)) (ap field_value t ∙ field-read v (ltb-true v (2 ^ 64) b.0)) (ap (line_fields (length vs)) d ∙ line_read vs b.1)

-- what is read as m numbers is their line
pub read-line : (m : ℕ) (bs vs : List ℕ) → line_fields m bs ≡ some vs → (bs ≡ line vs) × (length vs ≡ m) × (every is_word vs ≡ true)
unfolding line_fields every line joined
read-line zero bs vs e = ended (same_words bs (line_end ∷ [])) refl e
  where
    ended : (b : Bool) → same_words bs (line_end ∷ []) ≡ b → cond b (some []) none ≡ some vs → (bs ≡ line vs) × (length vs ≡ 0) × (every is_word vs ≡ true)
    ended true p r = let z : [] ≡ vs = cc in (same-eq bs (line_end ∷ []) p ∙ ap line z, ap length (sym z), ap (every is_word) (sym z))
    ended false p r = let z : ◌≡◌ {A = ℕ} 0 1 = cc in absurd (omega arith)
read-line (suc m) bs vs e =
    let r = both (λ v vs. v ∷ vs) (field_value (take columns bs)) (line_fields m (drop columns bs)) vs e in
    let f = read-field (take columns bs) r.one r.first in
    let l = read-line m (drop columns bs) r.other r.second in (
      sym (take-append-drop columns bs) ∙ ap₂ (λ a b. a ++ b) f.0 l.0 ∙ sym (line-cons r.one r.other) ∙ ap line r.made,
      ap length (sym r.made) ∙ ap suc l.1,
      ap (every is_word) (sym r.made) ∙ rw (lt-ltb r.one (2 ^ 64) f.1) l.2,
    )

-- ---- lines

-- how many pieces a text has, the last one perhaps too short
abbrev pieces : ℕ → List ℕ → ℕ
pieces m text = (length text + m * columns) / line_len m

-- each line by itself is read
all_read : (m : ℕ) (ls : List (List ℕ)) → every (numbers m) ls ≡ true → all_some (map (line_fields m) (map line ls)) ≡ some ls
unfolding all_some also every
all_read m [] e = refl
all_read m (l ∷ ls) e =
    let b = and_both (numbers m l) (every (numbers m) ls) e in
    ap₂ (also (λ x xs. x ∷ xs))
    (ap (λ (k : ℕ). line_fields k (line l)) (sym (numbers-length m l b.0)) ∙ line_read l (numbers-words m l b.0))
    (all_read m ls b.1)

-- the bytes of lines of m numbers each
pub length-lines : (m : ℕ) (ls : List (List ℕ)) → every (numbers m) ls ≡ true → length (joined (map line ls)) ≡ length ls * line_len m
length-lines m ls e = pieces-length line (numbers m) (line_len m) (numbers-line m) ls e

-- lines of m numbers below 2^64 are read as those numbers
pub lines-read : (m : ℕ) (ls : List (List ℕ)) → every (numbers m) ls ≡ true → lines_fields m (joined (map line ls)) ≡ some ls
unfolding lines_fields
lines-read m ls e =
    let long : length (joined (map line ls)) ≡ length ls * line_len m = length-lines m ls e in
    let k : pieces m (joined (map line ls)) ≡ length ls = div-eq_of_lt-le (line_len m) (omega arith) (omega (arith, add-mul (length ls) 1 (line_len m), one-mul (line_len m))) in
    ap (λ (n : ℕ). all_some (map (line_fields m) (groups (line_len m) n (joined (map line ls))))) k
    ∙ ap (λ g. all_some (map (line_fields m) g)) (pieces-cut line (numbers m) (line_len m) (numbers-line m) ls e)
    ∙ all_read m ls e

-- a text of at most n pieces. (One that is too short is no line.)
read-pieces : (m n : ℕ) (text : List ℕ) (ls : List (List ℕ)) → length text ≤ n * line_len m → all_some (map (line_fields m) (groups (line_len m) n text)) ≡ some ls
    → (text ≡ joined (map line ls)) × (every (numbers m) ls ≡ true)
unfolding groups all_some joined every
read-pieces m zero [] ls h e = let z : [] ≡ ls = cc in (ap (λ w. joined (map line w)) z, ap (every (numbers m)) (sym z))
read-pieces m zero (b ∷ text) ls h e = absurd (omega (arith, zero-mul (line_len m)))
read-pieces m (suc n) text ls h e =
    let len : ℕ = line_len m in
    let r = both (λ l ls. l ∷ ls) (line_fields m (take len text)) (all_some (map (line_fields m) (groups len n (drop len text)))) ls e in
    let f = read-line m (take len text) r.one r.first in
    let l = read-pieces m n (drop len text) r.other (omega (arith, length-drop len text, suc-mul n len)) r.second in (
      sym (take-append-drop len text) ∙ ap₂ (λ a b. a ++ b) f.0 l.0 ∙ ap (λ w. joined (map line w)) r.made,
      ap (every (numbers m)) (sym r.made) ∙ rw (numbers-are m r.one f.1 f.2) l.1,
    )

-- what is read as lines of m numbers is their lines
pub read-lines : (m : ℕ) (text : List ℕ) (ls : List (List ℕ)) → lines_fields m text ≡ some ls → (text ≡ joined (map line ls)) × (every (numbers m) ls ≡ true)
unfolding lines_fields
read-lines m text ls e =
    let len : ℕ = line_len m in
    let enough : length text ≤ pieces m text * len = omega (arith, div-add-mod' (length text + m * columns) len, mod-lt (length text + m * columns) {m = len} (omega arith)) in
    read-pieces m (pieces m text) text ls enough e

-- ---- the bytes that were read

module _ (m : ℕ) (text : List ℕ) (ls : List (List ℕ)) (e : lines_fields m text ≡ some ls) where
  -- as many bytes as the lines have
  pub lines-count : length text ≡ length ls * line_len m
  lines-count =
      let r = read-lines m text ls e in
      ap length r.0 ∙ length-lines m ls r.1

  -- each line has m numbers
  pub lines-numbers : (i : ℕ) → i < length ls → numbers m (get_or ls i []) ≡ true
  lines-numbers i h = every-at (numbers m) ls i [] (read-lines m text ls e).1 h

  -- the lines from line k on
  pub lines-tail : (k : ℕ) → k ≤ length ls → lines_fields m (drop (line_len m * k) text) ≡ some (drop k ls)
  lines-tail k h =
      let r = read-lines m text ls e in
      ap (lines_fields m)
      (ap (drop (line_len m * k)) (r.0 ∙ sym (append-nil (joined (map line ls))))
      ∙ pieces-from line (numbers m) (line_len m) (numbers-line m) k ls [] r.1 h
      ∙ append-nil (joined (map line (drop k ls))))
      ∙ lines-read m (drop k ls) (every_drop (numbers m) k ls r.1)

  -- what stands from field j of line i on begins with that field
  field-begins : (i j : ℕ) → i < length ls → j < m → (rest : List ℕ) × (drop (line_len m * i + columns * j) text ≡ field (get_or (get_or ls i []) j 0) ++ rest)
  unfolding line
  field-begins i j h g =
      let r = read-lines m text ls e in
      let vs : List ℕ = get_or ls i [] in
      let n : numbers m vs ≡ true = lines-numbers i h in
      let rest : List ℕ = joined (map line (drop (suc i) ls)) ++ [] in (
        joined (map field (drop (suc j) vs)) ++ (line_end ∷ [] ++ rest),
        sym (drop-drop (columns * j) (line_len m * i) text)
            ∙ ap (λ (w : List ℕ). drop (columns * j) (drop (line_len m * i) w)) (r.0 ∙ sym (append-nil (joined (map line ls))))
            ∙ ap (drop (columns * j)) (pieces-at line (numbers m) (line_len m) (numbers-line m) i ls [] [] r.1 h ∙ append_assoc (joined (map field vs)) (line_end ∷ []) rest)
            ∙ pieces-at field is_word columns (λ x p. length-field x) j vs 0 (line_end ∷ [] ++ rest) (numbers-words m vs n) (omega (arith, numbers-length m vs n)),
      )

  -- field j of line i
  pub line-field : (i j : ℕ) → i < length ls → j < m → field_value (take columns (drop (line_len m * i + columns * j) text)) ≡ some (get_or (get_or ls i []) j 0)
  line-field i j h g =
      let vs : List ℕ = get_or ls i [] in
      let v : ℕ = get_or vs j 0 in
      let n : numbers m vs ≡ true = lines-numbers i h in
      let b = field-begins i j h g in
      ap (λ (w : List ℕ). field_value (take columns w)) b.1
      ∙ ap field_value (take_at (field v) b.0 columns (length-field v))
      ∙ field-read v (ltb-true v (2 ^ 64) (every-at is_word vs j 0 (numbers-words m vs n) (omega (arith, numbers-length m vs n))))
