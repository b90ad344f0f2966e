-- The two round trips of the sheet, about its definitions: what is written is read again, and what is read is written again. Assumes nothing.
use mathlib.Core.Path.{◌≡◌, refl, sym, ap, ap₂, ◌∙◌}
use mathlib.Core.Bool.{Bool, true, false, not, ◌||◌}
use mathlib.Core.List.{List, [], ◌∷◌, map}
use mathlib.Core.Option.{some}
use Prim.Native.Nat.{ℕ, ◌^◌, ◌<◌, ◌≤◌}
use native.Mathlib.Omega.{arith}
use lib.Dec.{T, ltb}
use lib.Ieee.{Float, binary64, fits}
use lib.Ieee.Bits.{of_bits-to_bits, to_bits-lt}
use lib.ListN.{length, get_or}
use lib.Seq.{take_at, drop_at}
use borrow.Author.Tests.{lt-ltb, ltb-false}
use Rattle.model.specs.Lists.{every, joined}
use Rattle.model.specs.Floats.{bits, float}
use Rattle.model.specs.Entries.{Entry}
use Rattle.model.specs.Sheet.{Sheet, line, line_len, first_line, sheet_lines, sheet_text, also, line_fields, lines_fields, read_lines, read_sheet}
use Rattle.model.specs.Numbers.{gives, first_of, size_sound, bounds_sound, entries_sound}
use Rattle.model.specs.Calls.{sheet_tests}
use Rattle.model.proofs.Shape.{sized}
use Rattle.checks.specs.Sound.{entry_sound}
use Rattle.checks.proofs.Words.{entries-one-pass}
use Rattle.fields.specs.Read.{is_some}
use Rattle.model.proofs.Sheet.{length-line}
use Rattle.fields.proofs.Lines.{is_word, line_read, lines-read}
use Rattle.reader.specs.Reading.{sheet_in}
use Rattle.reader.proofs.Sheets.{is_read}
use Rattle.reader.proofs.Rewritten.{sheet-again}
use Rattle.reader.proofs.Reread.{fitting, lines_of, entries-back, entries-numbers}

-- ---- numbers 1, 2 and 5 are not given

module _ (t : Sheet) (len : ℕ) where
  record Passed : Type 0 where
    pub size : size_sound t.size len ≡ true
    pub count : length t.entries ≤ t.size.capacity
    pub bounds : bounds_sound t.threshold t.cutoff ≡ true
    pub entries : entries_sound t.size t.entries ≡ true

  passed : first_of (sheet_tests t len) ≡ 0 → Passed
  unfolding first_of sheet_tests
  passed e =
      go (size_sound t.size len) (ltb t.size.capacity (length t.entries)) (bounds_sound t.threshold t.cutoff) (entries_sound t.size t.entries) refl refl refl refl e
    where
      go : (a b c d : Bool) → size_sound t.size len ≡ a → ltb t.size.capacity (length t.entries) ≡ b → bounds_sound t.threshold t.cutoff ≡ c → entries_sound t.size t.entries ≡ d
          → first_of (gives 1 (not a) ∷ gives 2 (b || not c) ∷ gives 5 (not d) ∷ []) ≡ 0 → Passed
      go true false true true p q r s z = record { size = p; count = ltb-false _ _ q; bounds = r; entries = s }
      go true false true false p q r s z = absurd (omega arith)
      go true false false d p q r s z = absurd (omega arith)
      go true true c d p q r s z = absurd (omega arith)
      go false b c d p q r s z = absurd (omega arith)

-- ---- read, then written

-- a sheet that is read is written as it was: sound bounds suffice
pub bounds-suffice : (text : List ℕ) (t : Sheet) → read_sheet text ≡ some t → bounds_sound t.threshold t.cutoff ≡ true → sheet_text t ≡ text
unfolding is_some
bounds-suffice text t e b =
    let r = is_read text (ap is_some e) in
    let s : sheet_in text ≡ t = cc in
    sym (ap sheet_text s) ∙ sheet-again text r (ap (λ (x : Sheet). bounds_sound x.threshold x.cutoff) s ∙ b)

-- A SHEET THAT IS READ IS WRITTEN AS IT WAS
pub written_read : (text : List ℕ) (t : Sheet) (len : ℕ) → read_sheet text ≡ some t → first_of (sheet_tests t len) ≡ 0 → sheet_text t ≡ text
written_read text t len e z = bounds-suffice text t e (passed t len z).bounds

-- ---- written, then read

-- numbers 1, 2 and 5 are not given for a store of `len` words, an f64 holds each bound, and each entry fits
pub record Writable (t : Sheet) (len : ℕ) : Type 0 where
  pub tests : first_of (sheet_tests t len) ≡ 0
  pub threshold : T (fits binary64 t.threshold)
  pub cutoff : T (fits binary64 t.cutoff)
  pub entries : every (fitting t.size) t.entries ≡ true

six-words : (a b c d e f : ℕ) → a < 2 ^ 64 → b < 2 ^ 64 → c < 2 ^ 64 → d < 2 ^ 64 → e < 2 ^ 64 → f < 2 ^ 64 → every is_word (a ∷ b ∷ c ∷ d ∷ e ∷ f ∷ []) ≡ true
unfolding every
six-words a b c d e f ha hb hc hd he hf =
    rw (lt-ltb a (2 ^ 64) ha, lt-ltb b (2 ^ 64) hb, lt-ltb c (2 ^ 64) hc, lt-ltb d (2 ^ 64) hd, lt-ltb e (2 ^ 64) he, lt-ltb f (2 ^ 64) hf)

module _ (t : Sheet) (len : ℕ) (w : Writable t len) where
  pass : Passed t len
  pass = passed t len w.tests

  each-sound : every (entry_sound t.size) t.entries ≡ true
  each-sound = sym (entries-one-pass t.size t.entries) ∙ pass.entries

  first-words : every is_word (first_line t) ≡ true
  unfolding first_line
  first-words =
      let z = sized t.size len pass.size in
      six-words t.size.n t.size.k t.size.capacity (length t.entries) (bits t.threshold) (bits t.cutoff)
      (omega (arith, z.qubits.high)) (omega (arith, z.coefficients.high)) (omega (arith, z.capacity.high)) (omega (arith, z.capacity.high, pass.count))
      (to_bits-lt binary64 t.threshold w.threshold) (to_bits-lt binary64 t.cutoff w.cutoff)

  first-six : length (first_line t) ≡ 6
  unfolding first_line
  first-six = refl

  lines-back : read_lines (some (first_line t)) (some (lines_of t.size t.entries)) ≡ some t
  unfolding read_lines first_line also
  lines-back =
      ap (also (λ (h : List ℕ) (es : List Entry). record { size = record { n = get_or h 0 0; k = get_or h 1 0; capacity = get_or h 2 0 }; threshold = float (get_or h 4 0); cutoff = float (get_or h 5 0); entries = es }) (some (first_line t))) (entries-back t.size t.entries w.entries each-sound)
      ∙ ap₂ (λ (x y : Float). some (record { size = t.size; threshold = x; cutoff = y; entries = t.entries })) (of_bits-to_bits binary64 t.threshold w.threshold) (of_bits-to_bits binary64 t.cutoff w.cutoff)

  -- A SHEET THAT IS WRITTEN IS READ AS IT WAS
  pub read-written : read_sheet (sheet_text t) ≡ some t
  unfolding read_sheet sheet_text sheet_lines joined
  read-written =
      let one : List ℕ = line (first_line t) in
      let rest : List ℕ = joined (map line (lines_of t.size t.entries)) in
      let long : length one ≡ line_len 6 = length-line (first_line t) ∙ ap line_len first-six in
      ap₂ read_lines
      (ap (line_fields 6) (take_at one rest (line_len 6) long) ∙ ap (λ (m : ℕ). line_fields m one) (sym first-six) ∙ line_read (first_line t) first-words)
      (ap (lines_fields 3) (drop_at one rest (line_len 6) long) ∙ lines-read 3 (lines_of t.size t.entries) (entries-numbers t.size t.entries w.entries each-sound))
      ∙ lines-back
