-- An accepted start: a fresh call, or a sheet that is read, begins with a list that has its place in the store. Assumes nothing.
use Prim.Native.Nat.{ℕ, zero, suc, ◌*◌, ◌-◌, ◌≤◌}
use native.Mathlib.Omega.{arith}
use mathlib.Core.Path.{◌≡◌, refl, ap, ◌∙◌}
use mathlib.Core.Bool.{Bool, true, false, cond, not, ◌&&◌, ◌||◌}
use mathlib.Core.List.{List, [], ◌∷◌, map}
use mathlib.Core.Option.{Option, none, some}
use lib.Dec.{eqb, ltb, leb}
use lib.Ieee.{Float}
use lib.ListN.{length, take, drop, get_or, replicate, length-append, length-replicate}
use lib.Seq.{length-take-le}
use borrow.Author.Tests.{eqb-true, eqb-false, leb-true, ltb-false, not-false}
use Rattle.model.specs.Lists.{joined, groups, is_empty, every}
use Rattle.model.specs.Floats.{float, one_bits, above}
use Rattle.model.specs.Entries.{Entry, strip, coefs_len}
use Rattle.model.specs.Keys.{keyed}
use Rattle.model.specs.Sum.{Result, done, refused}
use Rattle.model.specs.Sheet.{Sheet, same_words, field_value, also, columns, line_end, line_fields, line_len, all_some, lines_fields, read_entry, read_entries, read_lines, read_sheet}
use Rattle.model.specs.Numbers.{Test, first_of, size_sound, bounds_sound, body_sound, weights_sound, bodies_sound, entries_sound}
use Rattle.model.specs.Calls.{unless, Start, fresh, read, fresh_row, fresh_entry, fresh_entries, fresh_sheet, fresh_tests, sheet_tests, sheet_begins, begins, start_keyed}
use Rattle.model.specs.declared.Size.{Size}
use Rattle.model.proofs.Sound.{few-of}
use Rattle.model.proofs.Lists.{and_both, or-neither}
use Rattle.model.proofs.Shape.{sized}
use Rattle.model.proofs.Each.{Each, nil, cons, each_take, each-drop, each_of}
use Rattle.model.proofs.Yields.{passed}
use Rattle.model.proofs.Bodies.{fresh-sound}
use Rattle.model.proofs.Rows.{rows_below-length}
use Rattle.model.proofs.Full.{Full}
use Rattle.model.proofs.Held.{Held}

-- ---- a sheet's lines

-- what holds of what is read, if anything is
data Reads {A : Type 0} (Q : A → Type 0) : Option A → Type 0 where
  not-read : Reads Q none
  as_read : {a : A} → Q a → Reads Q (some a)

reads-also : {A B C : Type 0} (P : A → Type 0) (Q : B → Type 0) (R : C → Type 0) (f : A → B → C) → ((a : A) (b : B) → P a → Q b → R (f a b))
    → {o : Option A} {p : Option B} → Reads P o → Reads Q p → Reads R (also f o p)
unfolding also
reads-also P Q R f h not-read q = not-read
reads-also P Q R f h (as_read p) not-read = not-read
reads-also P Q R f h (as_read {a = a} p) (as_read {a = b} q) = as_read (h a b p q)

reads-any : {A : Type 0} (o : Option A) → Reads (λ a. Unit {0}) o
reads-any none = not-read
reads-any (some a) = as_read tt

-- a line has as many fields as it is read for
abbrev Long : ℕ → List ℕ → Type 0
Long m l = length l ≡ m

line-long : (m : ℕ) (bs : List ℕ) → Reads (Long m) (line_fields m bs)
unfolding line_fields
line-long zero bs = go (same_words bs (line_end ∷ []))
  where
    go : (t : Bool) → Reads (Long 0) (cond t (some []) none)
    go true = as_read refl
    go false = not-read
line-long (suc m) bs = reads-also (λ a. Unit {0}) (Long m) (Long (suc m)) _ (λ v vs p q. ap suc q) (reads-any (field_value (take columns bs))) (line-long m (drop columns bs))

lines_long : (m : ℕ) (ls : List (List ℕ)) → Reads (Each (Long m)) (all_some (map (line_fields m) ls))
unfolding all_some
lines_long m [] = as_read nil
lines_long m (l ∷ ls) = reads-also (Long m) (Each (Long m)) (Each (Long m)) _ (λ a r p q. cons p q) (line-long m l) (lines_long m ls)

all-long : (m : ℕ) (text : List ℕ) → Reads (Each (Long m)) (lines_fields m text)
unfolding lines_fields
all-long m text = lines_long m (groups (line_len m) _ text)

joined-long : {ls : List (List ℕ)} → Each (Long 3) ls → length (joined ls) ≡ 3 * length ls
unfolding joined
joined-long nil = refl
joined-long (cons {x = l} {l = ls} p a) = let e = joined-long a in omega (arith, length-append l (joined ls), p, e)

-- ---- its entries

-- full, if it counts no more coefficients than K
abbrev FullIfFew : Size → Entry → Type 0
FullIfFew s e = e.body.count ≤ s.k → Full s e

entry-full : (s : Size) (l : List ℕ) (coefs rows : List (List ℕ)) → Each (Long 3) coefs → Each (Long 3) rows
    → length coefs ≡ get_or l 2 0 → length rows ≡ 2 * s.n → FullIfFew s (read_entry s.k l coefs rows)
unfolding read_entry
entry-full s l coefs rows a b p q h =
    let c = get_or l 2 0 in
    record {
      coefs = omega (arith, length-append (joined coefs) (replicate (3 * (s.k - c)) 0), length-replicate {A = ℕ} (3 * (s.k - c)) 0, joined-long a, p, h);
      rows = joined-long b ∙ ap (λ (k : ℕ). 3 * k) q;
    }

entries-full : (s : Size) (count : ℕ) (ls : List (List ℕ)) → Each (Long 3) ls → Reads (Each (FullIfFew s)) (read_entries s count ls)
unfolding read_entries
entries-full s zero ls a = go (is_empty ls)
  where
    go : (t : Bool) → Reads (Each (FullIfFew s)) (cond t (some []) none)
    go true = as_read nil
    go false = not-read
entries-full s (suc count) [] a = not-read
entries-full s (suc count) (l ∷ ls) (cons p a) =
    go (leb (get_or l 2 0) (length ls) && leb (2 * s.n) (length (drop (get_or l 2 0) ls))) refl
    (entries-full s count (drop (2 * s.n) (drop (get_or l 2 0) ls)) (each-drop (Long 3) (2 * s.n) (each-drop (Long 3) (get_or l 2 0) a)))
  where
    go : (t : Bool) → (leb (get_or l 2 0) (length ls) && leb (2 * s.n) (length (drop (get_or l 2 0) ls))) ≡ t
        → Reads (Each (FullIfFew s)) (read_entries s count (drop (2 * s.n) (drop (get_or l 2 0) ls)))
        → Reads (Each (FullIfFew s))
        (cond t
        (also (λ e es. e ∷ es) (some (read_entry s.k l (take (get_or l 2 0) ls) (take (2 * s.n) (drop (get_or l 2 0) ls)))) (read_entries s count (drop (2 * s.n) (drop (get_or l 2 0) ls))))
        none)
    go true e later =
        let b = and_both (leb (get_or l 2 0) (length ls)) (leb (2 * s.n) (length (drop (get_or l 2 0) ls))) e in
        reads-also (FullIfFew s) (Each (FullIfFew s)) (Each (FullIfFew s)) _ (λ x r p q. cons p q)
        (as_read
        (entry-full s l (take (get_or l 2 0) ls) (take (2 * s.n) (drop (get_or l 2 0) ls)) (each_take (Long 3) (get_or l 2 0) a)
        (each_take (Long 3) (2 * s.n) (each-drop (Long 3) (get_or l 2 0) a))
        (length-take-le (get_or l 2 0) ls (leb-true (get_or l 2 0) (length ls) b.0))
        (length-take-le (2 * s.n) (drop (get_or l 2 0) ls) (leb-true (2 * s.n) (length (drop (get_or l 2 0) ls)) b.1))))
        later
    go false e later = not-read

SheetFull : Sheet → Type 0
SheetFull t = Each (FullIfFew t.size) t.entries

-- the size on the first line, and the sheet
abbrev size_on : List ℕ → Size
size_on h = record { n = get_or h 0 0; k = get_or h 1 0; capacity = get_or h 2 0 }

abbrev sheet_on : List ℕ → List Entry → Sheet
sheet_on h es = record { size = size_on h; threshold = float (get_or h 4 0); cutoff = float (get_or h 5 0); entries = es }

listed-full : (h : List ℕ) {p : Option (List Entry)} → Reads (Each (FullIfFew (size_on h))) p → Reads SheetFull (also sheet_on (some h) p)
unfolding also SheetFull
listed-full h not-read = not-read
listed-full h (as_read q) = as_read q

lines-full : (o : Option (List ℕ)) {p : Option (List (List ℕ))} → Reads (Each (Long 3)) p → Reads SheetFull (read_lines o p)
unfolding read_lines
lines-full none q = not-read
lines-full (some h) not-read = not-read
lines-full (some h) (as_read {a = ls} q) = listed-full h (entries-full (size_on h) (get_or h 3 0) ls q)

sheet-full : (text : List ℕ) → Reads SheetFull (read_sheet text)
unfolding read_sheet
sheet-full text = lines-full (line_fields 6 (take (line_len 6) text)) (all-long 3 (drop (line_len 6) text))

-- ---- a start

-- accepted with a list that has its place in a store of `len` words, or refused with a number that is not 0
pub data Started (len : ℕ) : Result Sheet → Type 0 where
  begun-with : {t : Sheet} → size_sound t.size len ≡ true → bounds_sound t.threshold t.cutoff ≡ true → Held t.size t.entries
      → bodies_sound t.size t.entries ≡ true → Started len (done t)
  not-begun : {n : ℕ} → (n ≡ 0 → ⊥) → Started len (refused n)

started-unless : (len : ℕ) (ts : List Test) (t : Sheet) → (first_of ts ≡ 0 → Started len (done t)) → Started len (unless ts (done t))
unfolding unless
started-unless len ts t h = go (eqb (first_of ts) 0) refl
  where
    go : (b : Bool) → eqb (first_of ts) 0 ≡ b → Started len (cond b (done t) (refused (first_of ts)))
    go true e = h (eqb-true (first_of ts) 0 e)
    go false e = not-begun (eqb-false (first_of ts) 0 e)

-- fresh
fresh-full : (s : Size) → 1 ≤ s.k → Full s (fresh_entry s)
unfolding fresh_entry
fresh-full s h =
    record { coefs = let e = length-replicate {A = ℕ} (coefs_len s - 3) 0 in omega (arith, e, h); rows = rows_below-length (fresh_row s.n) (2 * s.n) }

fresh-held : (s : Size) (cutoff : Float) → 1 ≤ s.k → 1 ≤ s.capacity → Held s (fresh_entries s cutoff)
unfolding fresh_entries
fresh-held s cutoff h r = go (above (float one_bits) cutoff)
  where
    go : (t : Bool) → Held s (cond t (fresh_entry s ∷ []) [])
    go true = record { each = cons (fresh-full s h) nil; room = r }
    go false = record { each = nil; room = omega arith }

fresh-bodies : (s : Size) (cutoff : Float) → 1 ≤ s.k → bodies_sound s (fresh_entries s cutoff) ≡ true
unfolding fresh_entries bodies_sound every
fresh-bodies s cutoff h = go (above (float one_bits) cutoff)
  where
    go : (t : Bool) → bodies_sound s (cond t (fresh_entry s ∷ []) []) ≡ true
    go true = rw (fresh-sound s h)
    go false = refl

fresh-started : (s : Size) (threshold cutoff : Float) (len : ℕ) → Started len (begins (fresh s threshold cutoff) len)
unfolding begins fresh_tests
fresh-started s threshold cutoff len =
    started-unless len _ (fresh_sheet s threshold cutoff)
    (λ e.
    let a = passed (not (size_sound s len)) 0 _ e in
    let b = passed (not (bounds_sound threshold cutoff)) 1 [] a.1 in
    let z = not-false (size_sound s len) a.0 in
    let d = sized s len z in
    begun-with z (not-false (bounds_sound threshold cutoff) b.0) (fresh-held s cutoff d.coefficients.low d.capacity.low)
    (fresh-bodies s cutoff d.coefficients.low))

-- a sheet: number 5 leaves no entry with more coefficients than K
each-full : (s : Size) {es : List Entry} → Each (λ e. body_sound s e.body ≡ true) es → Each (FullIfFew s) es → Each (Full s) es
each-full s nil nil = nil
each-full s (cons {x = e} p a) (cons q b) = cons (q (few-of s e p)) (each-full s a b)

not-zero : (n : ℕ) → suc n ≡ 0 → ⊥
not-zero n e = omega arith

read-started : (len : ℕ) {o : Option Sheet} → Reads SheetFull o → Started len (sheet_begins len o)
unfolding sheet_begins sheet_tests entries_sound bodies_sound SheetFull
read-started len not-read = not-begun (not-zero 6)
read-started len (as_read {a = t} q) =
    started-unless len _ t
    (λ e.
    let s = t.size in
    let full = ltb s.capacity (length t.entries) in
    let a = passed (not (size_sound s len)) 0 _ e in
    let b = passed (full || not (bounds_sound t.threshold t.cutoff)) 1 _ a.1 in
    let c = passed (not (entries_sound s t.entries)) 4 [] b.1 in
    let d = or-neither full (not (bounds_sound t.threshold t.cutoff)) b.0 in
    let sound = (and_both (weights_sound t.entries) (bodies_sound s t.entries) (not-false (entries_sound s t.entries) c.0)).1 in
    begun-with (not-false (size_sound s len) a.0) (not-false (bounds_sound t.threshold t.cutoff) d.1)
    (record { each = each-full s (each_of _ t.entries sound) q; room = ltb-false s.capacity (length t.entries) d.0 })
    sound)

pub started : (b : Start) (len : ℕ) → Started len (begins b len)
unfolding begins
started (fresh s threshold cutoff) len = fresh-started s threshold cutoff len
started (read text) len = read-started len (sheet-full text)

-- a fresh entry is stored with its keys, and one that is read with keys 0: without keys they are as they were
pub start-strip : (b : Start) (n : ℕ) (l : List Entry) → map strip (map (start_keyed b n) l) ≡ l
unfolding start_keyed keyed
start-strip b n [] = refl
start-strip (fresh s threshold cutoff) n (e ∷ l) = ap (λ (t : List Entry). e ∷ t) (start-strip (fresh s threshold cutoff) n l)
start-strip (read text) n (e ∷ l) = ap (λ (t : List Entry). e ∷ t) (start-strip (read text) n l)
