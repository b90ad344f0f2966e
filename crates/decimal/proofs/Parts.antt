-- The parts of a number's text, from the digits that were read. Assumes nothing.
use mathlib.Core.Path.{◌≡◌, refl, sym, ap, ◌∙◌}
use mathlib.Core.Bool.{Bool, true, false}
use mathlib.Core.List.{List, [], ◌∷◌, ◌++◌}
use Prim.Native.Nat.{ℕ, ◌+◌, ◌*◌, ◌-◌, ◌^◌, ◌≤◌, ◌<◌}
use native.Mathlib.Nat.{add-zero}
use native.Mathlib.Omega.{arith}
use Rattle.std.specs.Prelude.{Result, Ok, Err}
use lib.Dec.{eqb, ltb}
use lib.ListN.{length, length-append}
use borrow.Author.Tests.{eq-eqb, ne_eqb, lt-ltb, le-ltb, ltb-true, ltb-false}
use Rattle.decimal.specs.Digits.{byte_at, digits_at, digits_end, number_from, number}
use Rattle.decimal.specs.Wholes.{whole_at}
use Rattle.decimal.specs.Decimals.{minus, point, is_exponent, sign_end, written, significand_at, exponent_at}
use Rattle.decimal.specs.Bounds.{largest, capped, run_at, capped_significand, capped_exponent}
use Rattle.decimal.specs.declared.Run.{Run}
use Rattle.decimal.specs.declared.Significand.{Significand}
use Rattle.decimal.specs.declared.Exponent.{Exponent}
use Rattle.decimal.specs.declared.answer.Parsed.{Parsed}
use Rattle.decimal.specs.declared.answer.DecimalError.{DecimalError}
use Rattle.decimal.specs.declared.answer.DecimalError.TheVariants.{NoNumber, TooLarge}
use Rattle.decimal.proofs.Runs.{capped_small, capped-from}

number_append : (v : ℕ) (a b : List ℕ) → number_from v (a ++ b) ≡ number_from (number_from v a) b
unfolding number_from
number_append v [] b = refl
number_append v (d ∷ a) b = number_append (10 * v + (d - 48)) a b

-- where a run ends
pub run_end-is : (text : List ℕ) (i before : ℕ) (r : Run) → r ≡ run_at text i before → r.end ≡ digits_end text i
unfolding run_at
run_end-is text i before r e = ap (λ (q : Run). q.end) e

-- what it reads
read-from : (text : List ℕ) (i before : ℕ) (r : Run) → r ≡ run_at text i before → r.value ≡ capped (number_from before (digits_at text i))
unfolding run_at
read-from text i before r e = ap (λ (q : Run). q.value) e

-- whether it has a digit
none_read : (text : List ℕ) (i : ℕ) → digits_end text i ≡ i → eqb (length (digits_at text i)) 0 ≡ true
none_read text i h = eq-eqb (length (digits_at text i)) 0 (omega arith)

some_read : (text : List ℕ) (i : ℕ) → (digits_end text i ≡ i → ⊥) → eqb (length (digits_at text i)) 0 ≡ false
some_read text i h = ne_eqb (length (digits_at text i)) 0 (λ z. h (omega arith))

-- ---- the digits before an exponent

abbrev significand : ℕ → ℕ → ℕ → ℕ → Significand
significand value digits after end = record { value = value; digits = digits; after = after; end = end }

-- what the digits before a point and those after it write
both-written : (whole fraction : List ℕ) (end : ℕ)
    → capped_significand (written whole fraction end) ≡ significand (capped (number_from (number whole) fraction)) (length whole + length fraction) (length fraction) end
unfolding capped_significand
both-written whole fraction end = rw (number_append 0 whole fraction, length-append whole fraction)

module _ (text : List ℕ) (i : ℕ) (w : Run) (e : w ≡ run_at text i 0) where
  abbrev p : ℕ
  p = digits_end text i

  -- the first digits, as they were read
  ends : w.end ≡ p
  ends = run_end-is text i 0 w e

  reads : w.value ≡ capped (number (digits_at text i))
  reads = read-from text i 0 w e

  counts : w.end - i ≡ length (digits_at text i)
  counts = omega (arith, ends)

  pub no-point : (byte_at text w.end ≡ point → ⊥) → significand w.value (w.end - i) 0 w.end ≡ capped_significand (significand_at text i)
  unfolding significand_at number_from
  no-point h =
      let b : eqb (byte_at text p) point ≡ false = ne_eqb (byte_at text p) point (λ z. h (ap (byte_at text) ends ∙ z)) in
      rw (reads, counts, ends, b) (sym (both-written (digits_at text i) [] p ∙ rw add-zero))

  pub with-point : byte_at text w.end ≡ point → (f : Run) → f ≡ run_at text (w.end + 1) w.value
      → significand f.value (w.end - i + (f.end - (w.end + 1))) (f.end - (w.end + 1)) f.end ≡ capped_significand (significand_at text i)
  unfolding significand_at
  with-point h f g =
      let b : eqb (byte_at text p) point ≡ true = eq-eqb (byte_at text p) point (ap (byte_at text) (sym ends) ∙ h) in
      let r : f ≡ run_at text (p + 1) w.value = g ∙ ap (λ (k : ℕ). run_at text (k + 1) w.value) ends in
      let v : f.value ≡ capped (number_from (number (digits_at text i)) (digits_at text (p + 1))) = read-from text (p + 1) w.value f r ∙ ap (λ (k : ℕ). capped (number_from k (digits_at text (p + 1)))) reads ∙ capped-from (number (digits_at text i)) (digits_at text (p + 1)) in
      let s : f.end ≡ digits_end text (p + 1) = run_end-is text (p + 1) w.value f r in
      let n : f.end - (w.end + 1) ≡ length (digits_at text (p + 1)) = omega (arith, s, ends) in
      rw (counts, n, v, s, b) (sym (both-written (digits_at text i) (digits_at text (p + 1)) (digits_end text (p + 1))))

-- ---- an exponent

module _ (text : List ℕ) (i : ℕ) where
  abbrev exponent : Bool → ℕ → ℕ → Exponent
  exponent negative size end = record { negative = negative; size = size; end = end }

  abbrev start : ℕ
  start = sign_end text (i + 1)

  pub no-exponent : is_exponent (byte_at text i) ≡ false → exponent false 0 i ≡ capped_exponent (exponent_at text i)
  unfolding exponent_at capped_exponent
  no-exponent h = rw h (rw (capped_small 0 (omega arith)))

  module _ (h : is_exponent (byte_at text i) ≡ true) (at : ℕ) (a : at ≡ start) (r : Run) (e : r ≡ run_at text at 0) where
    run-here : r ≡ run_at text start 0
    run-here = e ∙ ap (λ (k : ℕ). run_at text k 0) a

    ending : r.end ≡ digits_end text start
    ending = run_end-is text start 0 r run-here

    pub no-exponent-digit : r.end ≡ at → exponent false 0 i ≡ capped_exponent (exponent_at text i)
    unfolding exponent_at capped_exponent
    no-exponent-digit z = rw (h, none_read text start (sym ending ∙ z ∙ a)) (rw (capped_small 0 (omega arith)))

    pub exponent-read : (r.end ≡ at → ⊥) → exponent (eqb (byte_at text (i + 1)) minus) r.value r.end ≡ capped_exponent (exponent_at text i)
    unfolding exponent_at capped_exponent
    exponent-read z = rw (h, some_read text start (λ q. z (ending ∙ q ∙ sym a)), read-from text start 0 r run-here, ending)

-- ---- a whole number

module _ (text : List ℕ) (from : ℕ) (r : Run) (e : r ≡ run_at text from 0) where
  abbrev answer : Result ℕ DecimalError → ℕ → Parsed ℕ
  answer value end = record { value = value; end = end }

  stops : r.end ≡ digits_end text from
  stops = run_end-is text from 0 r e

  is-large : r.large ≡ ltb largest (number (digits_at text from))
  unfolding run_at
  is-large = ap (λ (q : Run). q.large) e

  pub no_digit : r.end ≡ from → answer (Err NoNumber) from ≡ whole_at text from
  unfolding whole_at
  no_digit z = rw (none_read text from (sym stops ∙ z))

  pub large-whole : (r.end ≡ from → ⊥) → r.large ≡ true → answer (Err TooLarge) r.end ≡ whole_at text from
  unfolding whole_at
  large-whole z l =
      let g : largest < number (digits_at text from) = ltb-true largest (number (digits_at text from)) (sym is-large ∙ l) in
      rw (some_read text from (λ q. z (stops ∙ q)), le-ltb (number (digits_at text from)) (2 ^ 64) (omega arith), stops)

  pub whole-read : (r.end ≡ from → ⊥) → r.large ≡ false → answer (Ok r.value) r.end ≡ whole_at text from
  unfolding whole_at
  whole-read z l =
      let g : number (digits_at text from) ≤ largest = ltb-false largest (number (digits_at text from)) (sym is-large ∙ l) in
      let v : r.value ≡ number (digits_at text from) = read-from text from 0 r e ∙ capped_small (number (digits_at text from)) g in
      rw (some_read text from (λ q. z (stops ∙ q)), lt-ltb (number (digits_at text from)) (2 ^ 64) (omega arith), v, stops)
