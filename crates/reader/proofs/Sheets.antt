-- Line 1 and the sheet, as they are read. Assumes nothing.
use mathlib.Core.Path.{◌≡◌, refl, sym, ap, ◌∙◌}
use mathlib.Core.Bool.{Bool, true, false, true≢false, ◌&&◌}
use mathlib.Core.List.{List, [], ◌∷◌, append-nil}
use mathlib.Core.Option.{Option, none, some}
use Prim.Native.Nat.{ℕ, ◌+◌, ◌*◌, ◌<◌, ◌≤◌}
use native.Mathlib.Omega.{arith}
use lib.Dec.{ltb}
use lib.ListN.{length, take, drop, get_or}
use lib.Seq.{take_all}
use borrow.Author.Tests.{ltb-true, ltb-false}
use Rattle.model.specs.Lists.{joined, every}
use Rattle.model.specs.Floats.{float}
use Rattle.model.specs.Entries.{Entry}
use Rattle.model.specs.Sheet.{Sheet, columns, line_len, line, field_value, line_fields, lines_fields, also, read_entries, read_lines, read_sheet}
use Rattle.fields.specs.Read.{is_some}
use Rattle.model.proofs.Sheet.{length-line}
use Rattle.fields.proofs.Lines.{numbers-are, read-line, lines-read, line-field}
use Rattle.reader.specs.Reading.{got, lines_on, entries_on, header_on, header_in, sheet_in}
use Rattle.reader.proofs.Lined.{got-some}

-- ---- line 1

module _ (b : List ℕ) (h : is_some (line_fields 6 b) ≡ true) where
  read : line_fields 6 b ≡ some (got (line_fields 6 b))
  read = got-some (line_fields 6 b) h

  abbrev six : List ℕ
  six = got (line_fields 6 b)

  -- its bytes
  pub first-long : length b ≡ 127
  first-long =
      let r = read-line 6 b six read in
      ap length r.0 ∙ length-line six ∙ ap line_len r.1

  one_line : lines_fields 6 b ≡ some (six ∷ [])
  unfolding joined every
  one_line =
      let r = read-line 6 b six read in
      ap (lines_fields 6) (r.0 ∙ sym (append-nil (line six)))
      ∙ lines-read 6 (six ∷ []) (ap (λ (t : Bool). t && true) (numbers-are 6 six r.1 r.2))

  -- its numbers
  pub first_field : (at j : ℕ) → at ≡ columns * j → j < 6 → field_value (take columns (drop at b)) ≡ some (get_or six j 0)
  first_field at j e p =
      let z : at ≡ line_len 6 * 0 + columns * j = omega arith in
      ap (λ (k : ℕ). field_value (take columns (drop k b))) z ∙ line-field 6 b (six ∷ []) one_line 0 j (omega arith) p

  -- .. as a header
  pub header_is : {n k capacity count threshold cutoff : ℕ} → n ≡ get_or six 0 0 → k ≡ get_or six 1 0 → capacity ≡ get_or six 2 0 → count ≡ get_or six 3 0 → threshold ≡ get_or six 4 0 → cutoff ≡ get_or six 5 0
      → record { size = record { n = n; k = k; capacity = capacity }; count = count; threshold = float threshold; cutoff = float cutoff; dirty = true } ≡ header_on six
  header_is e₀ e₁ e₂ e₃ e₄ e₅ = rw (e₀, e₁, e₂, e₃, e₄, e₅)

-- ---- the sheet

no-first : (o : Option (List ℕ)) (q : Option (List (List ℕ))) → is_some o ≡ false → is_some (read_lines o q) ≡ false
unfolding read_lines is_some
no-first none q e = refl
no-first (some h) q e = absurd (true≢false e)

no_lines : (o : Option (List ℕ)) (q : Option (List (List ℕ))) → is_some q ≡ false → is_some (read_lines o q) ≡ false
unfolding read_lines is_some
no_lines none q e = refl
no_lines (some h) none e = refl
no_lines (some h) (some ls) e = absurd (true≢false e)

-- both were read: the entries decide
abbrev sheet_on : List ℕ → List Entry → Sheet
sheet_on h es = record { size = (header_on h).size; threshold = (header_on h).threshold; cutoff = (header_on h).cutoff; entries = es }

both_read : (o : Option (List ℕ)) (q : Option (List (List ℕ))) → is_some o ≡ true → is_some q ≡ true
    → read_lines o q ≡ also sheet_on (some (got o)) (read_entries (header_on (got o)).size (header_on (got o)).count (got q))
unfolding read_lines is_some got
both_read none q e f = absurd (true≢false (sym e))
both_read (some h) none e f = absurd (true≢false (sym f))
both_read (some h) (some ls) e f = refl

also-some : (h : List ℕ) (o : Option (List Entry)) → is_some (also sheet_on (some h) o) ≡ is_some o
unfolding is_some also
also-some h none = refl
also-some h (some es) = refl

also-got : (h : List ℕ) (o : Option (List Entry)) → is_some o ≡ true → also sheet_on (some h) o ≡ some (sheet_on h (got o))
unfolding is_some also got
also-got h none e = absurd (true≢false (sym e))
also-got h (some es) e = refl

module _ (text : List ℕ) where
  abbrev first : Option (List ℕ)
  first = line_fields 6 (take (line_len 6) text)

  abbrev lines : Option (List (List ℕ))
  lines = lines_fields 3 (drop (line_len 6) text)

  abbrev entries : Option (List Entry)
  entries = read_entries (header_in text).size (header_in text).count (lines_on (drop (line_len 6) text))

  -- line 1 cannot be read
  pub first-fails : is_some first ≡ false → false ≡ is_some (read_sheet text)
  unfolding read_sheet
  first-fails e = sym (no-first first lines e)

  -- .. as it is too short
  pub too_short : length text < line_len 6 → is_some first ≡ false
  too_short h = go (is_some first) refl
    where
      go : (b : Bool) → is_some first ≡ b → b ≡ false
      go true e = absurd (omega (arith, first-long (take (line_len 6) text) e, ap length (take_all (line_len 6) text (omega arith))))
      go false e = refl

  -- the lines of the entries cannot be read
  pub lines-fail : is_some lines ≡ false → false ≡ is_some (read_sheet text)
  unfolding read_sheet
  lines-fail e = sym (no_lines first lines e)

  -- they can: their number decides
  pub entries-decide : is_some first ≡ true → is_some lines ≡ true → is_some entries ≡ is_some (read_sheet text)
  unfolding read_sheet lines_on
  entries-decide e f = sym (ap is_some (both_read first lines e f) ∙ also-some (got first) entries)

  -- what is read of a sheet
  pub record Read : Type 0 where
    pub one : is_some first ≡ true
    pub rest : is_some lines ≡ true
    pub all : is_some entries ≡ true
    pub sheet : read_sheet text ≡ some (sheet_in text)

  found : is_some first ≡ true → is_some lines ≡ true → is_some entries ≡ true → Read
  unfolding read_sheet lines_on entries_on
  found p q r = record { one = p; rest = q; all = r; sheet = both_read first lines p q ∙ also-got (got first) entries r }

  pub is_read : is_some (read_sheet text) ≡ true → Read
  is_read h = go (is_some first) (is_some lines) refl refl
    where
      go : (a b : Bool) → is_some first ≡ a → is_some lines ≡ b → Read
      go false b p q = absurd (true≢false (sym h ∙ sym (first-fails p)))
      go true false p q = absurd (true≢false (sym h ∙ sym (lines-fail q)))
      go true true p q = found p q (entries-decide p q ∙ h)

-- it has the bytes of line 1
pub read-long : (text : List ℕ) → Read text → line_len 6 ≤ length text
read-long text r = go (ltb (length text) (line_len 6)) refl
  where
    go : (b : Bool) → ltb (length text) (line_len 6) ≡ b → line_len 6 ≤ length text
    go true e = absurd (true≢false (sym r.one ∙ too_short text (ltb-true (length text) (line_len 6) e)))
    go false e = ltb-false (length text) (line_len 6) e
