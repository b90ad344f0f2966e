-- Where the parts of a number's text end: not before they begin, and within the text if they begin there. Assumes nothing.
use mathlib.Core.Path.{◌≡◌, refl, sym, ap, ◌∙◌, subst}
use mathlib.Core.Bool.{Bool, true, false, true≢false, cond, not, ◌&&◌}
use mathlib.Core.List.{List, [], ◌∷◌}
use Prim.Native.Nat.{ℕ, ◌+◌, ◌*◌, ◌^◌, ◌≤◌, ◌<◌}
use native.Mathlib.Nat.{lt_of_not-le}
use native.Mathlib.Omega.{arith}
use lib.Dec.{eqb, ltb}
use lib.Ieee.{Float, binary64, round}
use lib.Ieee.Scale.{finite}
use lib.ListN.{length, drop, length-drop, get_or-eq_default}
use Rattle.nearest.specs.Large.{digit_limit}
use Rattle.decimal.specs.Digits.{byte_at, is_digit, digits, digits_at, digits_end, number}
use Rattle.decimal.specs.Wholes.{whole_at}
use Rattle.decimal.specs.Decimals.{minus, point, is_sign, is_exponent, sign_end, significand_at, exponent_at, up, down, answer_for, scaled, answer_of, decimal_at}
use Rattle.decimal.specs.Bounds.{Within}
use Rattle.decimal.specs.declared.Significand.{Significand}
use Rattle.decimal.specs.declared.Exponent.{Exponent}
use Rattle.decimal.specs.declared.answer.Parsed.{Parsed}

-- a byte that passes a test which 0 does not pass is in the text
pub inside : (text : List ℕ) (i : ℕ) (p : ℕ → Bool) → p 0 ≡ false → p (byte_at text i) ≡ true → i < length text
inside text i p z h = lt_of_not-le (λ g. true≢false (sym h ∙ ap p (get_or-eq_default text 0 g) ∙ z))

shorter : (t : Bool) (b : ℕ) (bs ds : List ℕ) → length ds ≤ length bs → length (cond t (b ∷ ds) []) ≤ length (b ∷ bs)
shorter true b bs ds h = omega arith
shorter false b bs ds h = omega arith

digits-length : (bs : List ℕ) → length (digits bs) ≤ length bs
unfolding digits
digits-length [] = omega arith
digits-length (b ∷ bs) = shorter (is_digit b) b bs (digits bs) (digits-length bs)

-- by the two answers of a test
by-test : {A : Type 0} (P : A → Type 0) (t : Bool) (a b : A) → (t ≡ true → P a) → (t ≡ false → P b) → P (cond t a b)
by-test P true a b p q = p refl
by-test P false a b p q = q refl

both_first : (a b : Bool) → (a && b) ≡ true → a ≡ true
both_first true b h = refl
both_first false b h = h

here : (i n : ℕ) → Within i n i
here i n = record { after = omega arith; inside = λ h. h }

then : (a b c n : ℕ) → Within a n b → Within b n c → Within a n c
then a b c n p q = record { after = omega arith; inside = λ h. q.inside (p.inside h) }

module _ (text : List ℕ) where
  abbrev n : ℕ
  n = length text

  pub digits-within : (i : ℕ) → Within i n (digits_end text i)
  digits-within i = record { after = omega arith; inside = λ h. omega (arith, digits-length (drop i text), length-drop i text) }

  -- past one byte that is in the text
  next-within : (i : ℕ) (p : ℕ → Bool) → p 0 ≡ false → p (byte_at text i) ≡ true → Within i n (i + 1)
  next-within i p z h = record { after = omega arith; inside = λ g. omega (arith, inside text i p z h) }

  pub sign-within : (i : ℕ) → Within i n (sign_end text i)
  unfolding sign_end is_sign
  sign-within i = by-test (λ (e : ℕ). Within i n e) (is_sign (byte_at text i)) _ _ (λ e. next-within i is_sign refl e) (λ e. here i n)

  pub significand-within : (i : ℕ) → Within i n (significand_at text i).end
  unfolding significand_at
  significand-within i =
      let p = digits_end text i in
      by-test (λ (s : Significand). Within i n s.end) (eqb (byte_at text p) point) _ _
      (λ e. then i p (digits_end text (p + 1)) n (digits-within i) (then p (p + 1) (digits_end text (p + 1)) n (next-within p (λ b. eqb b point) refl e) (digits-within (p + 1))))
      (λ e. digits-within i)

  -- no more digits stand after the point than there are bytes
  pub fraction-within : (i : ℕ) → (significand_at text i).after ≤ n
  unfolding significand_at
  fraction-within i =
      let p = digits_end text i in
      by-test (λ (s : Significand). s.after ≤ n) (eqb (byte_at text p) point) _ _
      (λ e. omega (arith, digits-length (drop (p + 1) text), length-drop (p + 1) text))
      (λ e. omega arith)

  pub exponent-within : (i : ℕ) → Within i n (exponent_at text i).end
  unfolding exponent_at is_exponent
  exponent-within i =
      let start = sign_end text (i + 1) in
      by-test (λ (x : Exponent). Within i n x.end) (is_exponent (byte_at text i) && not (eqb (length (digits_at text start)) 0)) _ _
      (λ e.
      then i (i + 1) (digits_end text start) n (next-within i is_exponent refl (both_first (is_exponent (byte_at text i)) _ e))
      (then (i + 1) start (digits_end text start) n (sign-within (i + 1)) (digits-within start)))
      (λ e. here i n)

  answer-end : (negative : Bool) (m f : ℕ) (x : Exponent) → (answer_of negative m f x).end ≡ x.end
  unfolding answer_of scaled answer_for
  answer-end negative m f x =
      by-test (λ (d : Parsed Float). d.end ≡ x.end) (ltb m digit_limit) _ _
      (λ e.
      by-test (λ (d : Parsed Float). d.end ≡ x.end)
      (finite (round binary64 false (m * 10 ^ up x.negative x.size f) (10 ^ down x.negative x.size f)))
      _
      _
      (λ k. refl)
      (λ k. refl))
      (λ e. refl)

  pub decimal-within : (from : ℕ) → Within from n (decimal_at text from).end
  unfolding decimal_at
  decimal-within from =
      let start = sign_end text from in
      let s = significand_at text start in
      let x = exponent_at text s.end in
      by-test (λ (d : Parsed Float). Within from n d.end) (eqb s.digits 0) _ _
      (λ e. here from n)
      (λ e.
      subst (λ (k : ℕ). Within from n k) (sym (answer-end (eqb (byte_at text from) minus) s.value s.after x))
      (then from start x.end n (sign-within from) (then start s.end x.end n (significand-within start) (exponent-within s.end))))

  pub whole-within : (from : ℕ) → Within from n (whole_at text from).end
  unfolding whole_at
  whole-within from =
      by-test (λ (w : Parsed ℕ). Within from n w.end) (eqb (length (digits_at text from)) 0) _ _
      (λ e. here from n)
      (λ e. by-test (λ (w : Parsed ℕ). Within from n w.end) (ltb (number (digits_at text from)) (2 ^ 64)) _ _ (λ k. digits-within from) (λ k. digits-within from))
