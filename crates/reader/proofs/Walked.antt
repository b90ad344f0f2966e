-- Entries read from the front: what a walk over their lines finds at each. Assumes nothing.
use mathlib.Core.Path.{◌≡◌, refl, sym, ap, ap₂, ◌∙◌}
use mathlib.Core.Bool.{Bool, true, false, true≢false, cond, ◌&&◌}
use mathlib.Core.List.{List, [], ◌∷◌}
use mathlib.Core.Option.{Option, none, some}
use Prim.Native.Nat.{ℕ, zero, suc, ◌+◌, ◌*◌, ◌-◌, ◌<◌, ◌≤◌}
use native.Mathlib.Nat.{sub-zero}
use native.Mathlib.Omega.{arith}
use lib.Dec.{leb}
use lib.ListN.{length, take, drop, get_or, length-drop}
use lib.Seq.{drop-drop}
use borrow.Author.Tests.{leb-true, leb-false, le-leb, lt-leb}
use Rattle.model.specs.Lists.{is_empty}
use Rattle.model.specs.Entries.{Entry}
use Rattle.model.specs.Sheet.{line_len, also, lines_fields, read_entry, read_entries}
use Rattle.model.specs.declared.Size.{Size}
use Rattle.fields.specs.Read.{is_some}
use Rattle.reader.specs.Reading.{got, Lined, lines_on, entry_span, entry_bytes, entry_on, entries_on}
use Rattle.reader.proofs.Lined.{lines_long, rest-lined, rest_lines}

-- ---- the first entry

leb-same : (a b c d : ℕ) → (a ≤ b → c ≤ d) → (c ≤ d → a ≤ b) → leb a b ≡ leb c d
leb-same a b c d f g = go (leb a b) (leb c d) refl refl
  where
    go : (t u : Bool) → leb a b ≡ t → leb c d ≡ u → t ≡ u
    go true true p q = refl
    go true false p q = absurd (omega (arith, f (leb-true a b p), leb-false c d q))
    go false true p q = absurd (omega (arith, g (leb-true c d q), leb-false a b p))
    go false false p q = refl

room : (c m r : ℕ) → (leb c m && leb r (m - c)) ≡ leb (1 + c + r) (suc m)
room c m r = go (leb c m) refl
  where
    go : (t : Bool) → leb c m ≡ t → (t && leb r (m - c)) ≡ leb (1 + c + r) (suc m)
    go true p = let q : c ≤ m = leb-true c m p in leb-same r (m - c) (1 + c + r) (suc m) (λ h. omega arith) (λ h. omega arith)
    go false p = let q : m < c = leb-false c m p in sym (lt-leb (1 + c + r) (suc m) (omega arith))

-- the first entry, if its lines are all there, and those after it
abbrev then-rest : Size → ℕ → List (List ℕ) → Option (List Entry)
then-rest s count ls = also (λ e es. e ∷ es) (some (entry_on s ls)) (read_entries s count (drop (entry_span s ls) ls))

first_read : (s : Size) (count : ℕ) (ls : List (List ℕ)) → read_entries s (suc count) ls ≡ cond (leb (entry_span s ls) (length ls)) (then-rest s count ls) none
unfolding read_entries entry_on
first_read s count [] = rw (lt-leb (1 + 0 + 2 * s.n) 0 (omega arith))
first_read s count (l ∷ ls) =
    let c : ℕ = get_or l 2 0 in
    let r : ℕ = 2 * s.n in
    let d : drop r (drop c ls) ≡ drop (1 + c + r) (l ∷ ls) =
    ap (drop r) (drop-drop c 1 (l ∷ ls)) ∙ drop-drop r (1 + c) (l ∷ ls) in
    ap₂ (λ (b : Bool) (x : List (List ℕ)). cond b (also (λ e es. e ∷ es) (some (read_entry s.k l (take c ls) (take r (drop c ls)))) (read_entries s count x)) none)
    (ap (λ (k : ℕ). leb c (length ls) && leb r k) (length-drop c ls) ∙ room c (length ls) r)
    d

-- its bytes
module _ (s : Size) (ls : List (List ℕ)) where
  pub bytes-there : entry_span s ls ≤ length ls → entry_bytes s ls ≡ line_len 3 * entry_span s ls
  unfolding entry_bytes
  bytes-there h = rw (le-leb (entry_span s ls) (length ls) h)

  pub bytes-missing : length ls < entry_span s ls → entry_bytes s ls ≡ 0
  unfolding entry_bytes
  bytes-missing h = rw (lt-leb (entry_span s ls) (length ls) h)

  -- its lines are all there, or not
  pub there : (entry_bytes s ls ≡ 0 → ⊥) → entry_span s ls ≤ length ls
  there h = go (leb (entry_span s ls) (length ls)) refl
    where
      go : (t : Bool) → leb (entry_span s ls) (length ls) ≡ t → entry_span s ls ≤ length ls
      go true p = leb-true _ _ p
      go false p = absurd (h (bytes-missing (leb-false _ _ p)))

  pub missing : entry_bytes s ls ≡ 0 → length ls < entry_span s ls
  missing h = go (leb (entry_span s ls) (length ls)) refl
    where
      go : (t : Bool) → leb (entry_span s ls) (length ls) ≡ t → length ls < entry_span s ls
      go true p = absurd (omega (arith, bytes-there (leb-true _ _ p), h))
      go false p = leb-false _ _ p

-- .. and what is read
module _ (s : Size) (count : ℕ) (ls : List (List ℕ)) where
  abbrev what : Bool → Option (List Entry)
  what b = cond b (then-rest s count ls) none

  pub none_read : length ls < entry_span s ls → is_some (read_entries s (suc count) ls) ≡ false
  unfolding is_some
  none_read h = ap is_some (first_read s count ls ∙ ap what (lt-leb (entry_span s ls) (length ls) h))

  also-some : (e : Entry) (o : Option (List Entry)) → is_some (also (λ x xs. x ∷ xs) (some e) o) ≡ is_some o
  unfolding is_some also
  also-some e none = refl
  also-some e (some l) = refl

  pub some_read : entry_span s ls ≤ length ls → is_some (read_entries s (suc count) ls) ≡ is_some (read_entries s count (drop (entry_span s ls) ls))
  some_read h =
      ap is_some (first_read s count ls ∙ ap what (le-leb (entry_span s ls) (length ls) h))
      ∙ also-some (entry_on s ls) (read_entries s count (drop (entry_span s ls) ls))

  -- of entries that are all there
  module _ (h : is_some (read_entries s (suc count) ls) ≡ true) where
    pub all_there : entry_span s ls ≤ length ls
    all_there = go (leb (entry_span s ls) (length ls)) refl
      where
        go : (t : Bool) → leb (entry_span s ls) (length ls) ≡ t → entry_span s ls ≤ length ls
        go true p = leb-true _ _ p
        go false p = absurd (true≢false (sym h ∙ none_read (leb-false _ _ p)))

    also-got : (e : Entry) (o : Option (List Entry)) → is_some o ≡ true → got (also (λ x xs. x ∷ xs) (some e) o) ≡ e ∷ got o
    unfolding is_some also got
    also-got e none p = absurd (true≢false (sym p))
    also-got e (some l) p = refl

    pub entries_next : entries_on s (suc count) ls ≡ entry_on s ls ∷ entries_on s count (drop (entry_span s ls) ls)
    unfolding entries_on
    entries_next =
        ap got (first_read s count ls ∙ ap what (le-leb (entry_span s ls) (length ls) all_there))
        ∙ also-got (entry_on s ls) (read_entries s count (drop (entry_span s ls) ls)) (sym (some_read all_there) ∙ h)

-- no more entries
pub read_none : (s : Size) (ls : List (List ℕ)) → is_some (read_entries s 0 ls) ≡ is_empty ls
unfolding read_entries is_some is_empty
read_none s [] = refl
read_none s (l ∷ ls) = refl

pub entries_none : (s : Size) (ls : List (List ℕ)) → is_some (read_entries s 0 ls) ≡ true → entries_on s 0 ls ≡ []
unfolding read_entries is_some is_empty entries_on got
entries_none s [] h = refl
entries_none s (l ∷ ls) h = absurd (true≢false (sym h))

-- as many as were asked for
pub entries-length : (s : Size) (count : ℕ) (ls : List (List ℕ)) → is_some (read_entries s count ls) ≡ true → length (entries_on s count ls) ≡ count
entries-length s zero ls h = ap length (entries_none s ls h)
entries-length s (suc count) ls h =
    ap length (entries_next s count ls h)
    ∙ ap suc (entries-length s count (drop (entry_span s ls) ls) (sym (some_read s count ls (all_there s count ls h)) ∙ h))

-- ---- the walk

-- at byte `at` of a text, before entry i of `count`
pub record Walk (count : ℕ) (text : List ℕ) (at i : ℕ) : Type 0 where
  pub within : at ≤ length text
  pub counted : i ≤ count
  pub lined : Lined (drop at text)

abbrev pub lines_from : List ℕ → ℕ → List (List ℕ)
lines_from text at = lines_on (drop at text)

-- what is left to read is there
abbrev pub read_from : Size → ℕ → List ℕ → ℕ → ℕ → Bool
read_from s count text at i = is_some (read_entries s (count - i) (lines_from text at))

abbrev pub entries_from : Size → ℕ → List ℕ → ℕ → ℕ → List Entry
entries_from s count text at i = entries_on s (count - i) (lines_from text at)

pub set_out : (count : ℕ) (text : List ℕ) → Lined text → Walk count text 0 0
set_out count text h = record { within = omega arith; counted = omega arith; lined = h }

-- at first all is left
module _ (s : Size) (count : ℕ) (text : List ℕ) where
  pub read_whole : read_from s count text 0 0 ≡ is_some (read_entries s count (lines_on text))
  read_whole = ap (λ (k : ℕ). is_some (read_entries s k (lines_on text))) (sub-zero count)

  pub entries-whole : entries_from s count text 0 0 ≡ entries_on s count (lines_on text)
  entries-whole = ap (λ (k : ℕ). entries_on s k (lines_on text)) (sub-zero count)

module _ (s : Size) (count : ℕ) (text : List ℕ) (at i : ℕ) (w : Walk count text at i) (h : i < count) where
  one_more : count - i ≡ suc (count - (i + 1))
  one_more = omega arith

  -- its lines are not all there
  pub walk-fails : entry_bytes s (lines_from text at) ≡ 0 → read_from s count text at i ≡ false
  walk-fails z = ap (λ (k : ℕ). is_some (read_entries s k (lines_from text at))) one_more ∙ none_read s (count - (i + 1)) (lines_from text at) (missing s (lines_from text at) z)

  module _ (g : entry_span s (lines_from text at) ≤ length (lines_from text at)) where
    abbrev span : ℕ
    span = entry_span s (lines_from text at)

    past : drop (at + entry_bytes s (lines_from text at)) text ≡ drop (line_len 3 * span) (drop at text)
    past = ap (λ (k : ℕ). drop (at + k) text) (bytes-there s (lines_from text at) g) ∙ sym (drop-drop (line_len 3 * span) at text)

    -- the entry's lines end within the text
    pub bytes-within : at + entry_bytes s (lines_from text at) ≤ length text
    bytes-within = omega (arith, bytes-there s (lines_from text at) g, lines_long (drop at text) w.lined, length-drop at text, w.within)

    pub walk-on : Walk count text (at + entry_bytes s (lines_from text at)) (i + 1)
    walk-on = record { within = bytes-within; counted = omega arith; lined = ap (λ (t : List ℕ). is_some (lines_fields 3 t)) past ∙ rest-lined (drop at text) w.lined span g }

    lines-on : lines_from text (at + entry_bytes s (lines_from text at)) ≡ drop span (lines_from text at)
    lines-on = ap lines_on past ∙ rest_lines (drop at text) w.lined span g

    pub walk-reads : read_from s count text (at + entry_bytes s (lines_from text at)) (i + 1) ≡ read_from s count text at i
    walk-reads =
        ap (λ (l : List (List ℕ)). is_some (read_entries s (count - (i + 1)) l)) lines-on
        ∙ sym (some_read s (count - (i + 1)) (lines_from text at) g)
        ∙ sym (ap (λ (k : ℕ). is_some (read_entries s k (lines_from text at))) one_more)

  module _ (r : read_from s count text at i ≡ true) where
    one-read : is_some (read_entries s (suc (count - (i + 1))) (lines_from text at)) ≡ true
    one-read = sym (ap (λ (k : ℕ). is_some (read_entries s k (lines_from text at))) one_more) ∙ r

    pub entry-there : entry_span s (lines_from text at) ≤ length (lines_from text at)
    entry-there = all_there s (count - (i + 1)) (lines_from text at) one-read

    pub walk-entries : entries_from s count text at i ≡ entry_on s (lines_from text at) ∷ entries_from s count text (at + entry_bytes s (lines_from text at)) (i + 1)
    walk-entries =
        ap (λ (k : ℕ). entries_on s k (lines_from text at)) one_more
        ∙ entries_next s (count - (i + 1)) (lines_from text at) one-read
        ∙ ap (λ (l : List (List ℕ)). entry_on s (lines_from text at) ∷ entries_on s (count - (i + 1)) l) (sym (lines-on entry-there))

-- at the end nothing is left
module _ (s : Size) (count : ℕ) (text : List ℕ) (at i : ℕ) (w : Walk count text at i) (h : count ≤ i) where
  none_left : count - i ≡ 0
  none_left = omega arith

  empty-is : (ls : List (List ℕ)) (b : Bool) → (b ≡ true → length ls ≡ 0) → (b ≡ false → length ls ≡ 0 → ⊥) → b ≡ is_empty ls
  unfolding is_empty
  empty-is [] true p q = refl
  empty-is [] false p q = absurd (q refl refl)
  empty-is (l ∷ ls) true p q = absurd (omega (arith, p refl))
  empty-is (l ∷ ls) false p q = refl

  pub walk_ends : (b : Bool) → (b ≡ true → at ≡ length text) → (b ≡ false → at ≡ length text → ⊥) → b ≡ read_from s count text at i
  walk_ends b p q =
      let l = lines_long (drop at text) w.lined in
      let d = length-drop at text in
      let v = w.within in
      empty-is (lines_from text at) b (λ e. omega (arith, p e, l, d)) (λ e z. q e (omega (arith, l, d, z, v)))
      ∙ sym (read_none s (lines_from text at))
      ∙ sym (ap (λ (k : ℕ). is_some (read_entries s k (lines_from text at))) none_left)

  pub walk-done : read_from s count text at i ≡ true → entries_from s count text at i ≡ []
  walk-done r =
      ap (λ (k : ℕ). entries_on s k (lines_from text at)) none_left
      ∙ entries_none s (lines_from text at) (sym (ap (λ (k : ℕ). is_some (read_entries s k (lines_from text at))) none_left) ∙ r)
