-- What the writer writes of a sound sum is read again as the same entries: the round trip of a header and 64-bit words. Assumes nothing.
use mathlib.Core.Path.{◌≡◌, refl, sym, ap, ap₂, ◌∙◌}
use mathlib.Core.Bool.{Bool, true, false, not, ◌&&◌, ◌||◌}
use mathlib.Core.List.{List, [], ◌∷◌, ◌++◌, map}
use mathlib.Core.Option.{some}
use Prim.Native.Nat.{ℕ, zero, suc, ◌+◌, ◌*◌, ◌≤◌}
use native.Mathlib.Nat.{suc-mul}
use native.Mathlib.Omega.{arith}
use lib.Dec.{T, ltb}
use lib.Ieee.{binary64, fits}
use lib.ListN.{length, take, drop, length-drop, length-map, take-append-drop}
use lib.Seq.{drop-drop, length-take-le}
use borrow.Author.Tests.{eq-eqb, le-ltb}
use Rattle.model.specs.Lists.{every, groups}
use Rattle.model.specs.Entries.{strip, head_len, coefs_len, rows_len, entry_len, bare_words, entry_of, listed}
use Rattle.model.specs.Sheet.{sheet_text, read_sheet}
use Rattle.model.specs.Numbers.{gives, first_of, size_sound, bounds_sound, entries_sound}
use Rattle.model.specs.Calls.{Lent, sum_of, engine, sheet_of, shape, zeros_past, sheet_tests, words_sound}
use Rattle.model.specs.declared.Size.{Size}
use Rattle.model.proofs.Lists.{and_both}
use Rattle.model.proofs.Entries.{length-listed}
use Rattle.model.proofs.Shape.{shaped, listed-within}
use Rattle.fields.proofs.Lines.{is_word}
use Rattle.fields.proofs.Pieces.{every_drop}
use Rattle.reader.proofs.Reread.{fitting}
use Rattle.reader.proofs.RoundTrip.{read-written}

-- ---- the entries of 64-bit words fit

and_is : (a b : Bool) → a ≡ true → b ≡ true → (a && b) ≡ true
and_is a b h g = ap₂ (λ (c d : Bool). c && d) h g

every_take : (n : ℕ) (l : List ℕ) → every is_word l ≡ true → every is_word (take n l) ≡ true
unfolding every
every_take zero l h = refl
every_take (suc n) [] h = refl
every_take (suc n) (x ∷ l) h = let b = and_both (is_word x) (every is_word l) h in and_is (is_word x) (every is_word (take n l)) b.0 (every_take n l b.1)

module _ (s : Size) where
  -- the words of a stretch without its keys
  bare-words : (a b c d f : ℕ) (r : List ℕ) → every is_word (a ∷ b ∷ c ∷ d ∷ f ∷ r) ≡ true → every is_word (bare_words (strip (entry_of s (a ∷ b ∷ c ∷ d ∷ f ∷ r)))) ≡ true
  unfolding bare_words entry_of every
  bare-words a b c d f r h =
      let o₁ = and_both (is_word a) _ h in
      let o₂ = and_both (is_word b) _ o₁.1 in
      let o₅ = and_both (is_word f) (every is_word r) (and_both (is_word d) _ (and_both (is_word c) _ o₂.1).1).1 in
      let back : take (coefs_len s) r ++ drop (head_len + coefs_len s) (a ∷ b ∷ c ∷ d ∷ f ∷ r) ≡ r = ap (λ (t : List ℕ). take (coefs_len s) r ++ t) (sym (drop-drop (coefs_len s) head_len (a ∷ b ∷ c ∷ d ∷ f ∷ r))) ∙ take-append-drop (coefs_len s) r in
      and_is (is_word a) _ o₁.0 (and_is (is_word b) _ o₂.0 (and_is (is_word f) _ o₅.0 (ap (every is_word) back ∙ o₅.1)))

  bare-stretch : (e : List ℕ) → length e ≡ entry_len s → every is_word e ≡ true → every is_word (bare_words (strip (entry_of s e))) ≡ true
  bare-stretch [] l h = absurd (omega arith)
  bare-stretch (a ∷ []) l h = absurd (omega arith)
  bare-stretch (a ∷ b ∷ []) l h = absurd (omega arith)
  bare-stretch (a ∷ b ∷ c ∷ []) l h = absurd (omega arith)
  bare-stretch (a ∷ b ∷ c ∷ d ∷ []) l h = absurd (omega arith)
  bare-stretch (a ∷ b ∷ c ∷ d ∷ f ∷ r) l h = bare-words a b c d f r h

  stretch-fits : (e : List ℕ) → length e ≡ entry_len s → every is_word e ≡ true → fitting s (strip (entry_of s e)) ≡ true
  unfolding fitting entry_of
  stretch-fits e l h =
      let p : length (take (coefs_len s) (drop head_len e)) ≡ coefs_len s = length-take-le (coefs_len s) (drop head_len e) (omega (arith, length-drop head_len e)) in
      let q : length (drop (head_len + coefs_len s) e) ≡ rows_len s = omega (arith, length-drop (head_len + coefs_len s) e) in
      and_is _ _ (and_is _ _ (eq-eqb _ _ p) (eq-eqb _ _ q)) (bare-stretch e l h)

  listed-fit : (count : ℕ) (w : List ℕ) → count * entry_len s ≤ length w → every is_word w ≡ true → every (fitting s) (map strip (listed s count w)) ≡ true
  unfolding listed groups every
  listed-fit zero w h e = refl
  listed-fit (suc n) w h e =
      let len = entry_len s in
      let q : suc n * len ≡ n * len + len = suc-mul n len in
      and_is _ _ (stretch-fits (take len w) (length-take-le len w (omega arith)) (every_take len w e))
      (listed-fit n (drop len w) (omega (arith, length-drop len w)) (every_drop is_word len w e))

-- ---- the sheet of a sound sum

-- numbers 1 and 2, as tests of a sheet
no-refusal : (a b c : Bool) → a ≡ true → b ≡ false → c ≡ true → first_of (gives 1 (not a) ∷ gives 2 b ∷ gives 5 (not c) ∷ []) ≡ 0
unfolding first_of
no-refusal a b c e f g = rw (e, f, g)

module _ (x : Lent) (z : first_of (shape x) ≡ 0) where
  size-sound : size_sound x.header.size (length x.words) ≡ true
  unfolding first_of
  size-sound = go (size_sound x.header.size (length x.words)) refl
    where
      go : (a : Bool) → size_sound x.header.size (length x.words) ≡ a → size_sound x.header.size (length x.words) ≡ true
      go true e = e
      go false e = absurd (omega (arith, rw e at z))

  bounds-pass : (ltb x.header.size.capacity (length (map strip (listed x.header.size x.header.count x.words))) || not (bounds_sound x.header.threshold x.header.cutoff)) ≡ false
  bounds-pass =
      let es = listed x.header.size x.header.count x.words in
      let l : length (map strip es) ≡ x.header.count = length-map es strip ∙ length-listed x.header.size x.header.count x.words in
      let h = shaped x z in
      rw (le-ltb x.header.size.capacity (length (map strip es)) (omega (arith, h.count)), h.bounds)

  -- A SOUND SUM'S SHEET IS READ AS THE SUM
  pub sum-read-back : words_sound x ≡ true → every is_word x.words ≡ true → T (fits binary64 x.header.threshold) → T (fits binary64 x.header.cutoff)
      → read_sheet (sheet_text (sheet_of engine (sum_of x))) ≡ some (sheet_of engine (sum_of x))
  unfolding sheet_tests
  sum-read-back e w t c =
      let es = map strip (listed x.header.size x.header.count x.words) in
      read-written (sheet_of engine (sum_of x)) (length x.words)
      (record {
        tests = no-refusal _ _ _ size-sound bounds-pass (and_both (zeros_past x) (entries_sound x.header.size es) e).1;
        threshold = t;
        cutoff = c;
        entries = listed-fit x.header.size x.header.count x.words (listed-within x (shaped x z)) w;
      })
