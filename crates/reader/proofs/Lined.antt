-- The lines on a text and on what is left of it, and the words that they hold. Assumes nothing.
use mathlib.Core.Path.{◌≡◌, refl, sym, ap, ap₂, ◌∙◌}
use mathlib.Core.Bool.{true, true≢false}
use mathlib.Core.List.{List, [], ◌∷◌, ◌++◌, append-nil, append_assoc}
use mathlib.Core.Option.{Option, none, some}
use Prim.Native.Nat.{ℕ, ◌+◌, ◌*◌, ◌<◌, ◌≤◌}
use native.Mathlib.Numerals.{add-one}
use native.Mathlib.Omega.{arith}
use lib.ListN.{length, take, drop, get_or, set, length-append}
use lib.Seq.{sets-eq, take_at, take-suc, length-take-le}
use Rattle.model.specs.Lists.{joined}
use Rattle.model.specs.Sheet.{columns, line_len, field_value, lines_fields}
use Rattle.fields.specs.Read.{is_some}
use Rattle.fields.proofs.Lines.{numbers-length, lines-count, lines-numbers, lines-tail, line-field}
use Rattle.reader.specs.Reading.{got, Lined, lines_on}

-- ---- what was read

module _ {A : Type 0} where
  pub got-some : (o : Option (List A)) → is_some o ≡ true → o ≡ some (got o)
  unfolding is_some got
  got-some none e = absurd (true≢false (sym e))
  got-some (some l) e = refl

  pub some-got : (o : Option (List A)) (l : List A) → o ≡ some l → got o ≡ l
  unfolding got
  some-got o l e = ap got e

  pub some_read : (o : Option (List A)) (l : List A) → o ≡ some l → is_some o ≡ true
  unfolding is_some
  some_read o l e = ap is_some e

-- ---- lines

-- a line of three numbers, by its numbers
pub three : (l : List ℕ) → length l ≡ 3 → l ≡ get_or l 0 0 ∷ get_or l 1 0 ∷ get_or l 2 0 ∷ []
three [] e = absurd (omega arith)
three (a ∷ []) e = absurd (omega arith)
three (a ∷ b ∷ []) e = absurd (omega arith)
three (a ∷ b ∷ c ∷ []) e = refl
three (a ∷ b ∷ c ∷ d ∷ l) e = absurd (omega arith)

module _ (text : List ℕ) (h : Lined text) where
  pub lined : lines_fields 3 text ≡ some (lines_on text)
  unfolding lines_on
  lined = got-some (lines_fields 3 text) h

  -- 64 bytes a line
  pub lines_long : length text ≡ length (lines_on text) * line_len 3
  lines_long = lines-count 3 text (lines_on text) lined

  -- number j of line i, by the byte at which its field begins
  pub field_at : (at i j : ℕ) → at ≡ line_len 3 * i + columns * j → i < length (lines_on text) → j < 3
      → field_value (take columns (drop at text)) ≡ some (get_or (get_or (lines_on text) i []) j 0)
  field_at at i j e p q = ap (λ (k : ℕ). field_value (take columns (drop k text))) e ∙ line-field 3 text (lines_on text) lined i j p q

  -- the lines from line k on
  module _ (k : ℕ) (p : k ≤ length (lines_on text)) where
    rest_read : lines_fields 3 (drop (line_len 3 * k) text) ≡ some (drop k (lines_on text))
    rest_read = lines-tail 3 text (lines_on text) lined k p

    pub rest-lined : Lined (drop (line_len 3 * k) text)
    rest-lined = some_read _ _ rest_read

    pub rest_lines : lines_on (drop (line_len 3 * k) text) ≡ drop k (lines_on text)
    unfolding lines_on
    rest_lines = some-got _ _ rest_read

  -- line i is its three numbers
  pub line-is : (i a b c : ℕ) → i < length (lines_on text) → a ≡ get_or (get_or (lines_on text) i []) 0 0 → b ≡ get_or (get_or (lines_on text) i []) 1 0 → c ≡ get_or (get_or (lines_on text) i []) 2 0
      → get_or (lines_on text) i [] ≡ a ∷ b ∷ c ∷ []
  line-is i a b c p ea eb ec =
      three (get_or (lines_on text) i []) (numbers-length 3 (get_or (lines_on text) i []) (lines-numbers 3 text (lines_on text) lined i p))
      ∙ rw (← ea, ← eb, ← ec)

-- ---- their words, written one line after the other

joined-last : (ls : List (List ℕ)) (l : List ℕ) → joined (ls ++ l ∷ []) ≡ joined ls ++ l
unfolding joined
joined-last [] l = append-nil l
joined-last (k ∷ ls) l = ap (λ (t : List ℕ). k ++ t) (joined-last ls l) ∙ sym (append_assoc k (joined ls) l)

pub line-written : (ls : List (List ℕ)) (i a b c : ℕ) (w : List ℕ) → i < length ls → 3 * i + 3 ≤ length w → get_or ls i [] ≡ a ∷ b ∷ c ∷ [] → take (3 * i) w ≡ joined (take i ls)
    → take (3 * (i + 1)) (set (set (set w (3 * i) a) (3 * i + 1) b) (3 * i + 2) c) ≡ joined (take (i + 1) ls)
line-written ls i a b c w p h l e =
    let words : List ℕ = a ∷ b ∷ c ∷ [] in
    let front : length (take (3 * i) w ++ words) ≡ 3 * (i + 1) =
    length-append (take (3 * i) w) words ∙ ap (λ (k : ℕ). k + 3) (length-take-le (3 * i) w (omega arith)) ∙ (omega arith) in
    ap₂ (λ (k m : ℕ). take (3 * (i + 1)) (set (set (set w (3 * i) a) k b) m c)) (add-one (3 * i)) (omega arith)
    ∙ ap (take (3 * (i + 1))) (sets-eq words w (3 * i) h)
    ∙ take_at (take (3 * i) w ++ words) (drop (3 * i + 3) w) (3 * (i + 1)) front
    ∙ ap₂ (λ (x y : List ℕ). x ++ y) e (sym l)
    ∙ sym (joined-last (take i ls) (get_or ls i []))
    ∙ ap joined (sym (take-suc ls i [] p))
    ∙ ap (λ (k : ℕ). joined (take k ls)) (sym (add-one i))
