-- The digits at a place of a text, read one after the other. Assumes nothing.
use mathlib.Core.Path.{◌≡◌, refl, sym, ap, ◌∙◌}
use mathlib.Core.Bool.{Bool, true, false, cond, ◌||◌}
use mathlib.Core.List.{List, [], ◌∷◌}
use Prim.Native.Nat.{ℕ, suc, ◌+◌, ◌*◌, ◌-◌, ◌≤◌, ◌<◌}
use native.Mathlib.Numerals.{add-one}
use native.Mathlib.Omega.{arith}
use lib.Dec.{ltb}
use lib.ListN.{length, get_or, drop, drop_of_length-le}
use lib.Seq.{drop-cons}
use borrow.Author.Tests.{lt-ltb, le-ltb, ltb-true, ltb-false, le-leb}
use Rattle.decimal.specs.Digits.{is_digit, digits, digits_at, digits_end, number_from}
use Rattle.decimal.specs.Bounds.{largest, capped, run_at}
use Rattle.decimal.specs.declared.Run.{Run}

-- ---- the digits, by the byte that stands first

is_digit-true : (b : ℕ) → 48 ≤ b → b ≤ 57 → is_digit b ≡ true
unfolding is_digit
is_digit-true b l h = rw (le-leb 48 b l) (le-leb b 57 h)

module _ (text : List ℕ) (i : ℕ) where
  first : i < length text → digits_at text i ≡ cond (is_digit (get_or text i 0)) (get_or text i 0 ∷ digits_at text (i + 1)) []
  unfolding digits
  first h = ap digits (drop-cons text i 0 h ∙ ap (λ (k : ℕ). get_or text i 0 ∷ drop k text) (sym (add-one i)))

  digit-first : i < length text → 48 ≤ get_or text i 0 → get_or text i 0 ≤ 57 → digits_at text i ≡ get_or text i 0 ∷ digits_at text (i + 1)
  digit-first h l k =
      first h ∙ ap (λ (t : Bool). cond t (get_or text i 0 ∷ digits_at text (i + 1)) []) (is_digit-true (get_or text i 0) l k)

  -- no digit stands there
  pub other-first : is_digit (get_or text i 0) ≡ false → i < length text → digits_at text i ≡ []
  other-first e h = first h ∙ ap (λ (t : Bool). cond t (get_or text i 0 ∷ digits_at text (i + 1)) []) e

  pub past_end : length text ≤ i → digits_at text i ≡ []
  unfolding digits
  past_end h = ap digits (drop_of_length-le text {i = i} h)

-- ---- numbers up to the largest

pub number-least : (v : ℕ) (ds : List ℕ) → v ≤ number_from v ds
unfolding number_from
number-least v [] = omega arith
number-least v (d ∷ ds) = omega (arith, number-least (10 * v + (d - 48)) ds)

pub capped_small : (n : ℕ) → n ≤ largest → capped n ≡ n
unfolding capped
capped_small n h = rw (le-ltb largest n h)

pub capped-large : (n : ℕ) → largest ≤ n → capped n ≡ largest
unfolding capped
capped-large n h = go (ltb largest n) refl
  where
    go : (t : Bool) → ltb largest n ≡ t → cond t largest n ≡ largest
    go true e = refl
    go false e = omega (arith, ltb-false largest n e)

-- digits after a number that is capped
pub capped-from : (v : ℕ) (ds : List ℕ) → capped (number_from (capped v) ds) ≡ capped (number_from v ds)
capped-from v ds = go (ltb largest v) refl
  where
    go : (t : Bool) → ltb largest v ≡ t → capped (number_from (capped v) ds) ≡ capped (number_from v ds)
    go true e =
        let l : largest < v = ltb-true largest v e in
        let c : capped v ≡ largest = capped-large v (omega arith) in
        ap (λ (n : ℕ). capped (number_from n ds)) c
        ∙ capped-large (number_from largest ds) (number-least largest ds)
        ∙ sym (capped-large (number_from v ds) (omega (arith, number-least v ds)))
    go false e = ap (λ (n : ℕ). capped (number_from n ds)) (capped_small v (ltb-false largest v e))

-- ---- the loop over the digits

-- what is left to read at a place, after the digits of `value`, gives
unfoldable pub left : List ℕ → ℕ → ℕ → Bool → Run
left text i value large =
    record {
      value = capped (number_from value (digits_at text i));
      large = large || ltb largest (number_from value (digits_at text i));
      end = digits_end text i;
    }

pub left-all : (text : List ℕ) (i before : ℕ) → left text i before false ≡ run_at text i before
unfolding left run_at
left-all text i before = refl

abbrev pub run : ℕ → Bool → ℕ → Run
run value large end = record { value = value; large = large; end = end }

or-false : (b : Bool) → (b || false) ≡ b
or-false true = refl
or-false false = refl

or-true : (b : Bool) → (b || true) ≡ true
or-true true = refl
or-true false = refl

pub left-none : (text : List ℕ) (i value : ℕ) (large : Bool) → value ≤ largest → digits_at text i ≡ [] → run value large i ≡ left text i value large
unfolding left number_from
left-none text i value large h e =
    let n : length (digits_at text i) ≡ 0 = ap length e in
    let z : i + length (digits_at text i) ≡ i = omega arith in
    sym (rw (z, e, capped_small value h, le-ltb largest value h, or-false large))

module _ (text : List ℕ) (i value : ℕ) (large : Bool) (h : i < length text) (l : 48 ≤ get_or text i 0) (k : get_or text i 0 ≤ 57) where
  abbrev next : ℕ
  next = 10 * value + (get_or text i 0 - 48)

  grown : left text i value large ≡ run (capped (number_from next (digits_at text (i + 1)))) (large || ltb largest (number_from next (digits_at text (i + 1)))) (digits_end text (i + 1))
  unfolding left number_from
  grown =
      let d = digit-first text i h l k in
      let n : length (digits_at text i) ≡ suc (length (digits_at text (i + 1))) = ap length d in
      let z : digits_end text i ≡ digits_end text (i + 1) = omega arith in
      rw (z, d)

  pub left-fits : next ≤ largest → left text (i + 1) next large ≡ left text i value large
  unfolding left
  left-fits s = sym grown

  pub left-large : largest < next → left text (i + 1) largest true ≡ left text i value large
  unfolding left
  left-large s =
      let ds = digits_at text (i + 1) in
      let c : capped (number_from largest ds) ≡ capped (number_from next ds) = ap (λ (n : ℕ). capped (number_from n ds)) (sym (capped-large next (omega arith))) ∙ capped-from next ds in
      let t : ltb largest (number_from next ds) ≡ true = lt-ltb largest (number_from next ds) (omega (arith, number-least next ds)) in
      sym (grown ∙ rw (t, or-true large, c))
