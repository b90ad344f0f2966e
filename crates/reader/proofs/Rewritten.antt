-- A sheet that was read, written again: line 1 and the entries' lines are those that were read. Assumes nothing.
use mathlib.Core.Path.{◌≡◌, refl, sym, ap, ap₂, ◌∙◌}
use mathlib.Core.Bool.{true, false, true≢false, not}
use mathlib.Core.List.{List, [], ◌∷◌, ◌++◌, append_assoc, append-nil, map}
use Prim.Native.Nat.{ℕ, zero, suc, ◌+◌, ◌*◌, ◌-◌, ◌^◌, ◌<◌, ◌≤◌}
use native.Mathlib.Omega.{arith}
use lib.Dec.{T}
use lib.Ieee.{Float, nan, inf, fin, binary64, is_nan, le}
use lib.Ieee.Bits.{to_bits-of_bits}
use lib.ListN.{length, take, drop, get_or, replicate, length-drop, take-append-drop}
use lib.Seq.{take_at, drop_at, take-add, drop-drop}
use borrow.Author.Tests.{ltb-true}
use Rattle.model.specs.Lists.{is_empty, every, groups, joined}
use Rattle.model.specs.Floats.{float, bits, zero_bits, finite, finite_from_zero}
use Rattle.model.specs.Entries.{Entry}
use Rattle.model.specs.Sheet.{line, line_len, first_line, entry_lines, sheet_lines, sheet_text, line_fields, read_entry, read_entries}
use Rattle.model.specs.Numbers.{bounds_sound}
use Rattle.model.specs.declared.Size.{Size}
use Rattle.model.proofs.Lists.{and_both, every-at}
use Rattle.fields.specs.Read.{is_some}
use Rattle.fields.proofs.Lines.{is_word, numbers, numbers-length, read-line, read-lines}
use Rattle.fields.proofs.Pieces.{every_drop}
use Rattle.reader.specs.Reading.{got, lines_on, entry_span, entry_on, entries_on, header_in, sheet_in}
use Rattle.reader.proofs.Lined.{three, lined, got-some}
use Rattle.reader.proofs.Walked.{all_there, entries_next, some_read, entries_none, read_none}
use Rattle.reader.proofs.Sheets.{Read}
use Rattle.reader.proofs.Answers.{count-is}

-- ---- lines of three numbers, joined and cut again

cut_again : (m : ℕ) (ls : List (List ℕ)) (z : List ℕ) → every (numbers 3) ls ≡ true → m ≤ length ls → groups 3 m (joined (take m ls) ++ z) ≡ take m ls
unfolding groups joined every
cut_again zero ls z e h = refl
cut_again (suc m) [] z e h = absurd (omega arith)
cut_again (suc m) (l ∷ ls) z e h =
    let b = and_both (numbers 3 l) (every (numbers 3) ls) e in
    let long : length l ≡ 3 = numbers-length 3 l b.0 in
    let r : List ℕ = joined (take m ls) ++ z in
    let a : (l ++ joined (take m ls)) ++ z ≡ l ++ r = append_assoc l (joined (take m ls)) z in
    ap₂ (λ (x : List ℕ) (y : List (List ℕ)). x ∷ y)
    (ap (take 3) a ∙ take_at l r 3 long)
    (ap (λ (w : List ℕ). groups 3 m (drop 3 w)) a ∙ ap (groups 3 m) (drop_at l r 3 long) ∙ cut_again m ls z b.1 (omega arith))

-- the lines of the first entry
entry-again : (s : Size) (ls : List (List ℕ)) → every (numbers 3) ls ≡ true → entry_span s ls ≤ length ls → entry_lines s.n (entry_on s ls) ≡ take (entry_span s ls) ls
unfolding entry_lines entry_on read_entry every
entry-again s [] e h = absurd (omega arith)
entry-again s (l ∷ ls) e h =
    let b = and_both (numbers 3 l) (every (numbers 3) ls) e in
    let c : ℕ = get_or l 2 0 in
    let r : ℕ = 2 * s.n in
    let rest : List (List ℕ) = drop c ls in
    let d : length rest ≡ length ls - c = length-drop c ls in
    ap₂ (λ (x : List ℕ) (y : List (List ℕ)). x ∷ y)
    (sym (three l (numbers-length 3 l b.0)))
    (ap₂ (λ (x y : List (List ℕ)). x ++ y)
    (cut_again c ls (replicate (3 * (s.k - c)) 0) b.1 (omega arith))
    (ap (groups 3 r) (sym (append-nil (joined (take r rest)))) ∙ cut_again r rest [] (every_drop (numbers 3) c ls b.1) (omega arith)))
    ∙ sym (take-add (1 + c) r (l ∷ ls) ∙ ap₂ (λ (x y : List (List ℕ)). x ++ take r y) (take-add 1 c (l ∷ ls)) (sym (drop-drop c 1 (l ∷ ls))))

entries-again : (s : Size) (count : ℕ) (ls : List (List ℕ)) → every (numbers 3) ls ≡ true → is_some (read_entries s count ls) ≡ true
    → joined (map (entry_lines s.n) (entries_on s count ls)) ≡ ls
unfolding joined is_empty
entries-again s zero ls e h = ap (λ (es : List Entry). joined (map (entry_lines s.n) es)) (entries_none s ls h) ∙ none_left ls (sym (read_none s ls) ∙ h)
  where
    none_left : (l : List (List ℕ)) → is_empty l ≡ true → [] ≡ l
    none_left [] p = refl
    none_left (x ∷ l) p = absurd (true≢false (sym p))
entries-again s (suc count) ls e h =
    let w = all_there s count ls h in
    let rest : List (List ℕ) = drop (entry_span s ls) ls in
    ap (λ (es : List Entry). joined (map (entry_lines s.n) es)) (entries_next s count ls h)
    ∙ ap₂ (λ (x y : List (List ℕ)). x ++ y) (entry-again s ls e w) (entries-again s count rest (every_drop (numbers 3) (entry_span s ls) ls e) (sym (some_read s count ls w) ∙ h))
    ∙ take-append-drop (entry_span s ls) ls

-- ---- line 1

-- a pattern that is no NaN is that of its float
no_nan : (x : Float) → finite_from_zero x ≡ true → T (not (is_nan x))
unfolding finite_from_zero is_nan finite
no_nan nan e = absurd (true≢false (sym (and_both (le (float zero_bits) nan) false e).1))
no_nan (inf s) e = tt
no_nan (fin s m k) e = tt

bits-again : (w : ℕ) → w < 2 ^ 64 → finite_from_zero (float w) ≡ true → bits (float w) ≡ w
bits-again w h e = to_bits-of_bits binary64 w h (no_nan (float w) e)

six-are : (l : List ℕ) → length l ≡ 6 → l ≡ get_or l 0 0 ∷ get_or l 1 0 ∷ get_or l 2 0 ∷ get_or l 3 0 ∷ get_or l 4 0 ∷ get_or l 5 0 ∷ []
six-are [] e = absurd (omega arith)
six-are (a ∷ []) e = absurd (omega arith)
six-are (a ∷ b ∷ []) e = absurd (omega arith)
six-are (a ∷ b ∷ c ∷ []) e = absurd (omega arith)
six-are (a ∷ b ∷ c ∷ d ∷ []) e = absurd (omega arith)
six-are (a ∷ b ∷ c ∷ d ∷ f ∷ []) e = absurd (omega arith)
six-are (a ∷ b ∷ c ∷ d ∷ f ∷ g ∷ []) e = refl
six-are (a ∷ b ∷ c ∷ d ∷ f ∷ g ∷ k ∷ l) e = absurd (omega arith)

-- ---- the sheet

module _ (text : List ℕ) (r : Read text) (sound : bounds_sound (header_in text).threshold (header_in text).cutoff ≡ true) where
  abbrev six : List ℕ
  six = got (line_fields 6 (take (line_len 6) text))

  first : (take (line_len 6) text ≡ line six) × (length six ≡ 6) × (every is_word six ≡ true)
  first = read-line 6 (take (line_len 6) text) six (got-some (line_fields 6 (take (line_len 6) text)) r.one)

  abbrev rest : List ℕ
  rest = drop (line_len 6) text

  below : (j : ℕ) → j < 6 → get_or six j 0 < 2 ^ 64
  below j h = ltb-true (get_or six j 0) (2 ^ 64) (every-at is_word six j 0 first.2 (omega (arith, first.1)))

  first-again : first_line (sheet_in text) ≡ six
  unfolding first_line bounds_sound
  first-again =
      let b = and_both (finite_from_zero (header_in text).threshold) (finite_from_zero (header_in text).cutoff) sound in
      ap₂ (λ (k : ℕ) (l : List ℕ). get_or six 0 0 ∷ get_or six 1 0 ∷ get_or six 2 0 ∷ k ∷ l) (count-is text r)
      (ap₂ (λ (x y : ℕ). x ∷ y ∷ []) (bits-again (get_or six 4 0) (below 4 (omega arith)) b.0) (bits-again (get_or six 5 0) (below 5 (omega arith)) b.1))
      ∙ sym (six-are six first.1)

  pub sheet-again : sheet_text (sheet_in text) ≡ text
  unfolding sheet_text sheet_lines joined
  sheet-again =
      let l = read-lines 3 rest (lines_on rest) (lined rest r.rest) in
      ap₂ (λ (x : List ℕ) (y : List (List ℕ)). line x ++ joined (map line y)) first-again (entries-again (header_in text).size (header_in text).count (lines_on rest) l.1 r.all)
      ∙ ap₂ (λ (x y : List ℕ). x ++ y) (sym first.0) (sym l.0)
      ∙ take-append-drop (line_len 6) text
