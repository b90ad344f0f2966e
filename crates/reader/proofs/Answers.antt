-- What reading gives and leaves, a law for each number. Assumes nothing.
use mathlib.Core.Path.{◌≡◌, refl, sym, ap, ap₂, ◌∙◌}
use mathlib.Core.Bool.{Bool, true, false, true≢false, cond, not, ◌&&◌, ◌||◌}
use mathlib.Core.List.{List, [], ◌∷◌, ◌++◌, map}
use mathlib.Core.Option.{Option, none, some}
use Prim.Native.Nat.{ℕ, ◌*◌, ◌-◌, ◌≤◌}
use native.Mathlib.Nat.{mul-le-mul_right, mul-sub, mul_comm}
use native.Mathlib.Omega.{arith}
use lib.Dec.{ltb, leb}
use lib.ListN.{length, replicate, length-map}
use borrow.Author.Tests.{leb-true, leb-false, lt-ltb, le-ltb, eq-eqb, ne_eqb}
use Rattle.model.specs.Lists.{joined}
use Rattle.model.specs.Entries.{Entry, Keyed, entry_len, words_of, pack}
use Rattle.model.specs.Sheet.{Sheet, read_sheet}
use Rattle.model.specs.Numbers.{first_of, size_sound, bounds_sound, header_sound, entries_sound}
use Rattle.model.specs.Calls.{unless, sheet_tests, sheet_begins, begins, start_dirty, start_keyed, zero_header, plain_answer, left_by, start, gave}
use Rattle.model.specs.Calls as Calls
use Rattle.model.specs.Sum.{done}
use Rattle.model.specs.declared.Header.{Header}
use Rattle.model.specs.declared.Answer.{Answer}
use Rattle.model.proofs.Lists.{and_both}
use Rattle.model.specs.Sound.{Sized}
use Rattle.model.proofs.Shape.{sized}
use Rattle.entries.specs.Within.{Within}
use Rattle.fields.specs.Read.{is_some}
use Rattle.reader.specs.Reading.{lines_on, header_in, entries_in, sheet_in, zero_keyed, sheet_number, Readable}
use Rattle.reader.proofs.Walked.{entries-length}
use Rattle.reader.proofs.Entry.{words_read}
use Rattle.reader.proofs.Sheets.{Read, is_read}

-- as many entries as line 1 says
pub count-is : (text : List ℕ) → Read text → length (entries_in text) ≡ (header_in text).count
count-is text r = entries-length (header_in text).size (header_in text).count (lines_on _) r.all

-- ---- the number

-- number 2 by the header
above-not : (a b : ℕ) (c : Bool) → (ltb b a || not c) ≡ not (leb a b && c)
above-not a b c = go (leb a b) c refl
  where
    go : (t c : Bool) → leb a b ≡ t → (ltb b a || not c) ≡ not (t && c)
    go true c p = ap (λ (x : Bool). x || not c) (le-ltb b a (leb-true a b p))
    go false c p = ap (λ (x : Bool). x || not c) (lt-ltb b a (leb-false a b p))

module _ (text : List ℕ) (len : ℕ) where
  abbrev h : Header
  h = header_in text

  -- the first of the three tests that applies
  abbrev first_number : Bool → Bool → Bool → ℕ
  first_number a b c = cond (not a) 1 (cond (not b) 2 (cond (not c) 5 0))

  pub number-7 : is_some (read_sheet text) ≡ false → 7 ≡ sheet_number text len
  unfolding sheet_number
  number-7 e = sym (ap (λ (b : Bool). cond b (first_of (sheet_tests (sheet_in text) len)) 7) e)

  module _ (r : Read text) where
    tests-are : first_of (sheet_tests (sheet_in text) len) ≡ first_number (size_sound h.size len) (header_sound h) (entries_sound h.size (entries_in text))
    unfolding first_of sheet_tests header_sound
    tests-are =
        ap (λ (b : Bool). cond (not (size_sound h.size len)) 1 (cond b 2 (cond (not (entries_sound h.size (entries_in text))) 5 0)))
        (ap (λ (k : ℕ). ltb h.size.capacity k || not (bounds_sound h.threshold h.cutoff)) (count-is text r)
        ∙ above-not h.count h.size.capacity (bounds_sound h.threshold h.cutoff))

    pub number_is : (a b c : Bool) → size_sound h.size len ≡ a → header_sound h ≡ b → entries_sound h.size (entries_in text) ≡ c → is_some (read_sheet text) ≡ true
        → first_number a b c ≡ sheet_number text len
    unfolding sheet_number
    number_is a b c p q s e =
        sym (ap (λ (x : Bool). cond x (first_of (sheet_tests (sheet_in text) len)) 7) e ∙ tests-are ∙ ap₂ (λ (x y : Bool). first_number x y (entries_sound h.size (entries_in text))) p q ∙ ap (first_number a b) s)

  pub number-1 : is_some (read_sheet text) ≡ true → size_sound h.size len ≡ false → 1 ≡ sheet_number text len
  number-1 e p = number_is (is_read text e) false _ _ p refl refl e

  pub number-2 : is_some (read_sheet text) ≡ true → size_sound h.size len ≡ true → header_sound h ≡ false → 2 ≡ sheet_number text len
  number-2 e p q = number_is (is_read text e) true false _ p q refl e

  pub number-5 : is_some (read_sheet text) ≡ true → size_sound h.size len ≡ true → header_sound h ≡ true → entries_sound h.size (entries_in text) ≡ false → 5 ≡ sheet_number text len
  number-5 e p q s = number_is (is_read text e) true true false p q s e

  pub number-0 : is_some (read_sheet text) ≡ true → size_sound h.size len ≡ true → header_sound h ≡ true → entries_sound h.size (entries_in text) ≡ true → 0 ≡ sheet_number text len
  number-0 e p q s = number_is (is_read text e) true true true p q s e

  -- none is given
  pub sound : sheet_number text len ≡ 0 → Readable text len
  unfolding sheet_number
  sound z = go (is_some (read_sheet text)) refl
    where
      go : (b : Bool) → is_some (read_sheet text) ≡ b → Readable text len
      go true e = record { read = e; tests = sym (ap (λ (b : Bool). cond b (first_of (sheet_tests (sheet_in text) len)) 7) e) ∙ z }
      go false e = absurd (omega (arith, z, ap (λ (b : Bool). cond b (first_of (sheet_tests (sheet_in text) len)) 7) e))

-- ---- what the tests leave

pub record Tested (text : List ℕ) (len : ℕ) : Type 0 where
  pub read : Read text
  pub size : Sized (header_in text).size len
  pub count : (header_in text).count ≤ (header_in text).size.capacity
  pub entries : entries_sound (header_in text).size (entries_in text) ≡ true

pub tested : (text : List ℕ) (len : ℕ) → Readable text len → Tested text len
unfolding header_sound
tested text len s =
    go (size_sound (header_in text).size len) (header_sound (header_in text)) (entries_sound (header_in text).size (entries_in text)) refl refl refl
    (sym (tests-are text len (is_read text s.read)) ∙ s.tests)
  where
    go : (a b c : Bool) → size_sound (header_in text).size len ≡ a → header_sound (header_in text) ≡ b → entries_sound (header_in text).size (entries_in text) ≡ c → first_number text len a b c ≡ 0 → Tested text len
    go true true true p q r z =
        record {
          read = is_read text s.read;
          size = sized (header_in text).size len p;
          count = leb-true (header_in text).count (header_in text).size.capacity (and_both (leb (header_in text).count (header_in text).size.capacity) (bounds_sound (header_in text).threshold (header_in text).cutoff) q).0;
          entries = r;
        }
    go true true false p q r z = absurd (omega arith)
    go true false c p q r z = absurd (omega arith)
    go false b c p q r z = absurd (omega arith)

pub tested-within : {text : List ℕ} {len : ℕ} → Tested text len → Within (header_in text).size
tested-within t = record { qubits = t.size.qubits.high; coefficients = t.size.coefficients.high }

-- the slots of the entries are within the store
pub slots-within : {text : List ℕ} {len : ℕ} → Tested text len → (header_in text).count * entry_len (header_in text).size ≤ len
slots-within {text} t = omega (arith, mul-le-mul_right (entry_len (header_in text).size) t.count, t.size.words)

-- ---- the store

map_both : (f : Entry → Keyed) (es : List Entry) → joined (map (λ e. words_of (f e)) es) ≡ joined (map words_of (map f es))
unfolding joined
map_both f [] = refl
map_both f (e ∷ es) = ap (λ (l : List ℕ). words_of (f e) ++ l) (map_both f es)

sub-mul : (a b c : ℕ) → b ≤ a → (a - b) * c ≡ a * c - b * c
sub-mul a b c h = omega (arith, mul_comm (a - b) c, mul-sub c a b, mul_comm c a, mul_comm c b)

length-mapped : (f : Entry → Keyed) (es : List Entry) → length (map f es) ≡ length es
length-mapped f es = length-map es f

-- the entries in their slots, and 0 past them
pub store_is : {text : List ℕ} {len : ℕ} (t : Tested text len) (past : ℕ) → past ≡ (header_in text).count * entry_len (header_in text).size
    → words_read (entries_in text) ++ replicate (len - past) 0 ≡ pack (header_in text).size (map zero_keyed (entries_in text))
unfolding pack
store_is {text} {len} t past e =
    let s = (header_in text).size in
    let c : length (map zero_keyed (entries_in text)) ≡ (header_in text).count = length-mapped zero_keyed (entries_in text) ∙ count-is text t.read in
    let z : len - past ≡ (s.capacity - length (map zero_keyed (entries_in text))) * entry_len s =
    ap₂ (λ (a b : ℕ). a - b) t.size.words e ∙ sym (sub-mul s.capacity (header_in text).count (entry_len s) t.count) ∙ ap (λ (k : ℕ). (s.capacity - k) * entry_len s) (sym c) in
    ap₂ (λ (a b : List ℕ). a ++ b) (map_both zero_keyed (entries_in text)) (ap (λ (k : ℕ). replicate k 0) z)

-- ---- the call

module _ (text w : List ℕ) where
  begins-none : (o : Option Sheet) → is_some o ≡ false → gave (plain_answer zero_header 7) w ≡ left_by (Calls.read text) w (sheet_begins (length w) o)
  unfolding is_some sheet_begins left_by
  begins-none none f = refl
  begins-none (some t) f = absurd (true≢false f)

  begins-refused : (t : Sheet) → (first_of (sheet_tests t (length w)) ≡ 0 → ⊥)
      → gave (plain_answer zero_header (first_of (sheet_tests t (length w)))) w ≡ left_by (Calls.read text) w (sheet_begins (length w) (some t))
  unfolding sheet_begins unless left_by
  begins-refused t k = rw (ne_eqb (first_of (sheet_tests t (length w))) 0 k)

  begins-done : (t : Sheet) → first_of (sheet_tests t (length w)) ≡ 0 → left_by (Calls.read text) w (done t) ≡ left_by (Calls.read text) w (sheet_begins (length w) (some t))
  unfolding sheet_begins unless
  begins-done t z = rw (eq-eqb (first_of (sheet_tests t (length w))) 0 z)

  abbrev number_by : Bool → ℕ
  number_by b = cond b (first_of (sheet_tests (sheet_in text) (length w))) 7

  -- a number is given
  refusal : (n : ℕ) → n ≡ sheet_number text (length w) → (n ≡ 0 → ⊥) → gave (plain_answer zero_header n) w ≡ left_by (Calls.read text) w (sheet_begins (length w) (read_sheet text))
  unfolding sheet_number
  refusal n e k = go (is_some (read_sheet text)) refl
    where
      go : (b : Bool) → is_some (read_sheet text) ≡ b → gave (plain_answer zero_header n) w ≡ left_by (Calls.read text) w (sheet_begins (length w) (read_sheet text))
      go true f =
          let m : n ≡ first_of (sheet_tests (sheet_in text) (length w)) = e ∙ ap number_by f in
          ap (λ (j : ℕ). gave (plain_answer zero_header j) w) m
          ∙ begins-refused (sheet_in text) (λ z. k (m ∙ z))
          ∙ ap (λ (o : Option Sheet). left_by (Calls.read text) w (sheet_begins (length w) o)) (sym (is_read text f).sheet)
      go false f =
          ap (λ (j : ℕ). gave (plain_answer zero_header j) w) (e ∙ ap number_by f)
          ∙ begins-none (read_sheet text) f

  pub is-refused : {r : Answer} {z : Header} (n : ℕ) → r ≡ plain_answer z n → z ≡ zero_header → n ≡ sheet_number text (length w) → (n ≡ 0 → ⊥) → gave r w ≡ start (Calls.read text) w
  unfolding start begins
  is-refused n a b e k = ap (λ (x : Answer). gave x w) (a ∙ ap (λ (x : Header). plain_answer x n) b) ∙ refusal n e k

  -- none is
  done-left : (es : List Entry) → map (start_keyed (Calls.read text) (header_in text).size.n) es ≡ map zero_keyed es
  unfolding start_keyed
  done-left [] = refl
  done-left (e ∷ es) = ap (λ (l : List Keyed). zero_keyed e ∷ l) (done-left es)

  accepted-left : Read text → gave (plain_answer (header_in text) 0) (pack (header_in text).size (map zero_keyed (entries_in text))) ≡ left_by (Calls.read text) w (done (sheet_in text))
  unfolding left_by start_dirty
  accepted-left r =
      ap₂ (λ (k : ℕ) (l : List Keyed). gave (plain_answer (record { size = (header_in text).size; count = k; threshold = (header_in text).threshold; cutoff = (header_in text).cutoff; dirty = true }) 0) (pack (header_in text).size l))
      (sym (count-is text r))
      (sym (done-left (entries_in text)))

  pub is-accepted : {r : Answer} {z : Header} {v : List ℕ} → Readable text (length w) → r ≡ plain_answer z 0 → z ≡ header_in text → v ≡ pack (header_in text).size (map zero_keyed (entries_in text))
      → gave r v ≡ start (Calls.read text) w
  unfolding start begins
  is-accepted s a b e =
      let r = is_read text s.read in
      ap₂ (λ (x : Answer) (y : List ℕ). gave x y) (a ∙ ap (λ (x : Header). plain_answer x 0) b) e
      ∙ accepted-left r
      ∙ begins-done (sheet_in text) s.tests
      ∙ ap (λ (o : Option Sheet). left_by (Calls.read text) w (sheet_begins (length w) o)) (sym r.sheet)
