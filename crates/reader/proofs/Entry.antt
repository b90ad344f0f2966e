-- One entry as it is read: its words, their number, and number 5. Assumes nothing.
use mathlib.Core.Path.{◌≡◌, refl, sym, ap, ap₂, ◌∙◌}
use mathlib.Core.Bool.{Bool, true, false, true≢false, ◌&&◌}
use mathlib.Core.List.{List, [], ◌∷◌, ◌++◌, append_assoc, map}
use Prim.Native.Nat.{ℕ, zero, suc, ◌*◌, ◌-◌, ◌<◌, ◌≤◌}
use native.Mathlib.Omega.{arith}
use lib.Dec.{leb}
use lib.ListN.{length, take, drop, get_or, set, replicate, length-append, length-drop, length-replicate}
use borrow.Author.Tests.{leb-true, leb-false, lt-leb}
use Rattle.model.specs.Lists.{joined, every}
use Rattle.model.specs.Entries.{Entry, words_of}
use Rattle.model.specs.Sheet.{read_entry}
use Rattle.model.specs.Numbers.{weight_sound, fits_in, body_sound}
use Rattle.model.specs.declared.Size.{Size}
use Rattle.model.proofs.Lists.{and_both, and-false}
use Rattle.model.proofs.Packed.{Fits}
use Rattle.checks.specs.Sound.{entry_sound}
use Rattle.fields.proofs.Lines.{numbers, numbers-length, read-lines}
use Rattle.fields.proofs.Pieces.{every_drop}
use Rattle.reader.specs.Reading.{Lined, lines_on, count_on, entry_span, entry_on, zero_keyed}
use Rattle.reader.proofs.Lined.{lined}

-- the five words before the coefficients
pub head-written : (e : List ℕ) (a b c : ℕ) → length e ≡ 5 → set (set (set (set (set e 0 a) 1 b) 2 0) 3 0) 4 c ≡ a ∷ b ∷ 0 ∷ 0 ∷ c ∷ []
head-written [] a b c l = absurd (omega arith)
head-written (v ∷ []) a b c l = absurd (omega arith)
head-written (v ∷ w ∷ []) a b c l = absurd (omega arith)
head-written (v ∷ w ∷ x ∷ []) a b c l = absurd (omega arith)
head-written (v ∷ w ∷ x ∷ y ∷ []) a b c l = absurd (omega arith)
head-written (v ∷ w ∷ x ∷ y ∷ z ∷ []) a b c l = refl
head-written (v ∷ w ∷ x ∷ y ∷ z ∷ u ∷ e) a b c l = absurd (omega arith)

-- an entry's words: the five, the coefficients, 0 in the unused places, the rows
pub entry-written : (s : Size) (ls : List (List ℕ)) (x y z t : List ℕ)
    → x ≡ get_or (get_or ls 0 []) 0 0 ∷ get_or (get_or ls 0 []) 1 0 ∷ 0 ∷ 0 ∷ count_on ls ∷ []
    → y ≡ joined (take (count_on ls) (drop 1 ls))
    → z ≡ replicate (3 * (s.k - count_on ls)) 0
    → t ≡ joined (take (2 * s.n) (drop (count_on ls) (drop 1 ls)))
    → ((x ++ y) ++ z) ++ t ≡ words_of (zero_keyed (entry_on s ls))
unfolding words_of entry_on read_entry
entry-written s ls x y z t ex ey ez et =
    ap (λ (u : List ℕ). u ++ t) (append_assoc x y z)
    ∙ append_assoc x (y ++ z) t
    ∙ ap₂ (λ (a b : List ℕ). a ++ b) ex (ap₂ (λ (a b : List ℕ). a ++ b) (ap₂ (λ (a b : List ℕ). a ++ b) ey ez) et)

-- ---- it has as many words as the size says

length-joined : (m : ℕ) (ls : List (List ℕ)) → every (numbers 3) ls ≡ true → m ≤ length ls → length (joined (take m ls)) ≡ 3 * m
unfolding joined every
length-joined zero ls e h = refl
length-joined (suc m) [] e h = absurd (omega arith)
length-joined (suc m) (l ∷ ls) e h =
    let b = and_both (numbers 3 l) (every (numbers 3) ls) e in
    length-append l (joined (take m ls)) ∙ (omega (arith, numbers-length 3 l b.0, length-joined m ls b.1 (omega arith)))

module _ (text : List ℕ) (h : Lined text) (s : Size) where
  abbrev ls : List (List ℕ)
  ls = lines_on text

  threes : every (numbers 3) ls ≡ true
  threes = (read-lines 3 text ls (lined text h)).1

  pub entry-fits : entry_span s ls ≤ length ls → count_on ls ≤ s.k → Fits s (zero_keyed (entry_on s ls))
  unfolding entry_on read_entry
  entry-fits p q =
      let after : length (drop 1 ls) ≡ length ls - 1 = length-drop 1 ls in
      let rows : length (drop (count_on ls) (drop 1 ls)) ≡ length (drop 1 ls) - count_on ls = length-drop (count_on ls) (drop 1 ls) in
      let all : every (numbers 3) (drop 1 ls) ≡ true = every_drop (numbers 3) 1 ls threes in
      record {
        coefs =
            length-append (joined (take (count_on ls) (drop 1 ls))) (replicate (3 * (s.k - count_on ls)) 0)
            ∙ (omega (arith, length-joined (count_on ls) (drop 1 ls) all (omega arith), length-replicate {A = ℕ} (3 * (s.k - count_on ls)) 0));
        rows = length-joined (2 * s.n) (drop (count_on ls) (drop 1 ls)) (every_drop (numbers 3) (count_on ls) (drop 1 ls) all) (omega arith);
      }

-- ---- number 5

-- it counts more coefficients than there are places
pub too_many : (s : Size) (ls : List (List ℕ)) → s.k < count_on ls → entry_sound s (entry_on s ls) ≡ false
unfolding entry_sound body_sound entry_on read_entry
too_many s ls h =
    rw (lt-leb (count_on ls) s.k h, and-false (fits_in s.n (get_or (get_or ls 0 []) 1 0)), and-false (weight_sound (get_or (get_or ls 0 []) 0 0)))

-- one entry's part of what is found of them all
module _ {X : Type 0} (p : X → Bool) (x : X) (xs : List X) where
  pub passes : p x ≡ true → every p xs ≡ every p (x ∷ xs)
  unfolding every
  passes e = sym (ap (λ (b : Bool). b && every p xs) e)

  pub fails : p x ≡ false → false ≡ every p (x ∷ xs)
  unfolding every
  fails e = sym (ap (λ (b : Bool). b && every p xs) e)

pub every-none : {X : Type 0} (p : X → Bool) → every p [] ≡ true
unfolding every
every-none p = refl

pub accepted-first : {X : Type 0} (p : X → Bool) (x : X) (xs : List X) → every p (x ∷ xs) ≡ true → (p x ≡ true) × (every p xs ≡ true)
unfolding every
accepted-first p x xs e = and_both (p x) (every p xs) e

-- an accepted entry counts no more coefficients than there are places
pub accepted-count : (s : Size) (ls : List (List ℕ)) → entry_sound s (entry_on s ls) ≡ true → count_on ls ≤ s.k
accepted-count s ls e = go (leb (count_on ls) s.k) refl
  where
    go : (b : Bool) → leb (count_on ls) s.k ≡ b → count_on ls ≤ s.k
    go true p = leb-true (count_on ls) s.k p
    go false p = absurd (true≢false (sym e ∙ too_many s ls (leb-false (count_on ls) s.k p)))

-- ---- the words of entries that were read

abbrev pub words_read : List Entry → List ℕ
words_read es = joined (map (λ e. words_of (zero_keyed e)) es)

-- what was written and what is left to write give the whole: a turn moves one entry from the one to the other
pub words-next : (e : Entry) (es rest : List Entry) (before now x all : List ℕ) → now ≡ before ++ x → x ≡ words_of (zero_keyed e) → es ≡ e ∷ rest
    → before ++ words_read es ≡ all → now ++ words_read rest ≡ all
unfolding joined
words-next e es rest before now x all p q r h =
    ap (λ (l : List ℕ). l ++ words_read rest) (p ∙ ap (λ (y : List ℕ). before ++ y) q)
    ∙ append_assoc before (words_of (zero_keyed e)) (words_read rest)
    ∙ ap (λ (l : List Entry). before ++ words_read l) (sym r)
    ∙ h
