-- The answer for a number's parts: by cases, and that numbers above 2^64 - 1 need not be known. Assumes nothing.
use mathlib.Core.Path.{◌≡◌, refl, sym, ap, ◌∙◌}
use mathlib.Core.Bool.{Bool, true, false, cond}
use mathlib.Core.List.{List}
use mathlib.Core.Logic.{inl, inr}
use Prim.Native.Nat.{ℕ, ◌+◌, ◌*◌, ◌-◌, ◌^◌, ◌≤◌, ◌<◌}
use native.Mathlib.Nat.{mul-one, zero-mul, eq-zero-or-pos}
use native.Mathlib.Omega.{arith}
use Rattle.std.specs.Prelude.{Ok}
use lib.Dec.{eqb, ltb}
use lib.Ieee.{Float, binary64, round, of_bits}
use lib.Ieee.Scale.{finite}
use Rattle.words.proofs.Rounded.{zero-rounded}
use Rattle.nearest.proofs.Far.{too-far-up, too-far-down}
use borrow.Author.Tests.{eq-eqb, ne_eqb, lt-ltb, le-ltb, ltb-true, ltb-false}
use Rattle.nearest.specs.Large.{digit_limit}
use Rattle.decimal.specs.Digits.{byte_at}
use Rattle.decimal.specs.Decimals.{minus, sign_end, significand_at, exponent_at, up, down, signed, refused, answer_for, scaled, answer_of, decimal_at}
use Rattle.decimal.specs.Bounds.{largest, capped, capped_significand, capped_exponent}
use Rattle.decimal.specs.declared.Significand.{Significand}
use Rattle.decimal.specs.declared.Exponent.{Exponent}
use Rattle.decimal.specs.declared.answer.Parsed.{Parsed}
use Rattle.decimal.specs.declared.answer.DecimalError.TheVariants.{NoNumber, TooLarge, Infinite}
use Rattle.decimal.proofs.Runs.{capped_small, capped-large}

-- ---- a size that is rounded

module _ (negative : Bool) (size : Float) (end : ℕ) where
  pub is_finite : (v : Float) → finite size ≡ true → v ≡ signed negative size → record { value = Ok v; end = end } ≡ answer_for negative size end
  unfolding answer_for
  is_finite v f e = rw (f, e)

  pub is-infinite : finite size ≡ false → refused Infinite end ≡ answer_for negative size end
  unfolding answer_for
  is-infinite f = rw f

-- ---- beyond the f64s

module _ (negative : Bool) (m end : ℕ) where
  -- divided by one large power of ten or by another, m is 0
  pub vanishes : m < digit_limit → (d e : ℕ) → 343 ≤ d → 343 ≤ e → scaled negative m 0 d end ≡ scaled negative m 0 e end
  unfolding scaled
  vanishes h d e p q =
      ap (λ (v : Float). answer_for negative v end)
      (rw (mul-one m) (sym (too-far-down m d h p) ∙ too-far-down m e h q))

  -- multiplied by one or by the other, it is 0 if it was, and else infinite
  pub bursts : (u v : ℕ) → 309 ≤ u → 309 ≤ v → scaled negative m u 0 end ≡ scaled negative m v 0 end
  unfolding scaled
  bursts u v p q =
      ap (λ (w : Float). answer_for negative w end)
      (elim (eq-zero-or-pos m) [
        | inl z ↦ sym (nothing u z) ∙ nothing v z
        | inr h ↦ too-far-up m u h p ∙ sym (too-far-up m v h q)
      ])
    where
      nothing : (u : ℕ) → m ≡ 0 → of_bits binary64 0 ≡ round binary64 false (m * 10 ^ u) 1
      nothing u z = zero-rounded (m * 10 ^ u) 1 (ap (λ (k : ℕ). k * 10 ^ u) z ∙ zero-mul (10 ^ u)) (omega arith)

-- ---- the cases of an answer

module _ (negative : Bool) (m f : ℕ) (x : Exponent) where
  pub too_many : digit_limit ≤ m → refused TooLarge x.end ≡ answer_of negative m f x
  unfolding answer_of
  too_many h = rw (le-ltb m digit_limit h)

  module _ (h : m < digit_limit) where
    pub far-below : x.negative ≡ true → 400 ≤ x.size → scaled negative m 0 400 x.end ≡ answer_of negative m f x
    unfolding answer_of up down
    far-below n g = rw (lt-ltb m digit_limit h, n) (vanishes negative m x.end h 400 (x.size + f) (omega arith) (omega arith))

    pub lowered : x.negative ≡ true → scaled negative m 0 (x.size + f) x.end ≡ answer_of negative m f x
    unfolding answer_of up down
    lowered n = rw (lt-ltb m digit_limit h, n)

    pub raised : x.negative ≡ false → f ≤ x.size → scaled negative m (x.size - f) 0 x.end ≡ answer_of negative m f x
    unfolding answer_of up down
    raised n g =
        let z : f - x.size ≡ 0 = omega arith in
        rw (lt-ltb m digit_limit h, n, z)

    pub less-raised : x.negative ≡ false → x.size < f → scaled negative m 0 (f - x.size) x.end ≡ answer_of negative m f x
    unfolding answer_of up down
    less-raised n g =
        let z : x.size - f ≡ 0 = omega arith in
        rw (lt-ltb m digit_limit h, n, z)

-- ---- numbers that are capped

module _ (negative : Bool) (m f end : ℕ) (fits : f < 2 ^ 63) (h : m < digit_limit) where
  abbrev of : Bool → ℕ → Parsed Float
  of n s = scaled negative m (up n s f) (down n s f) end

  -- one large exponent is as another
  far : (n : Bool) (s t : ℕ) → largest ≤ s → largest ≤ t → of n s ≡ of n t
  unfolding up down
  far true s t p q = vanishes negative m end h (s + f) (t + f) (omega arith) (omega arith)
  far false s t p q =
      let x : f - s ≡ 0 = omega arith in
      let y : f - t ≡ 0 = omega arith in
      rw (x, y) (bursts negative m end (s - f) (t - f) (omega arith) (omega arith))

  capped-size : (n : Bool) (s : ℕ) → of n (capped s) ≡ of n s
  capped-size n s = go (ltb largest s) refl
    where
      go : (t : Bool) → ltb largest s ≡ t → of n (capped s) ≡ of n s
      go true e =
          let l : largest < s = ltb-true largest s e in
          far n (capped s) s (omega (arith, capped-large s (omega arith))) (omega arith)
      go false e = ap (of n) (capped_small s (ltb-false largest s e))

module _ (negative : Bool) (m f : ℕ) (x : Exponent) where
  capped-exponent : f < 2 ^ 63 → answer_of negative m f (capped_exponent x) ≡ answer_of negative m f x
  unfolding answer_of capped_exponent
  capped-exponent h = go (ltb m digit_limit) refl
    where
      go : (t : Bool) → ltb m digit_limit ≡ t → answer_of negative m f (capped_exponent x) ≡ answer_of negative m f x
      go true e = ap (λ (d : Parsed Float). cond (ltb m digit_limit) d (refused TooLarge x.end)) (capped-size negative m f x.end h (ltb-true m digit_limit e) x.negative x.size)
      go false e =
          let l : digit_limit ≤ m = ltb-false m digit_limit e in
          sym (too_many negative m f (capped_exponent x) l) ∙ too_many negative m f x l

  capped-number : answer_of negative (capped m) f x ≡ answer_of negative m f x
  capped-number = go (ltb largest m) refl
    where
      go : (t : Bool) → ltb largest m ≡ t → answer_of negative (capped m) f x ≡ answer_of negative m f x
      go true e =
          let l : largest < m = ltb-true largest m e in
          sym (too_many negative (capped m) f x (omega (arith, capped-large m (omega arith)))) ∙ too_many negative m f x (omega arith)
      go false e = ap (λ (k : ℕ). answer_of negative k f x) (capped_small m (ltb-false largest m e))

-- a number above 2^64 - 1 is answered as 2^64 - 1 is
pub cap-unseen : (negative : Bool) (m f : ℕ) (x : Exponent) → f < 2 ^ 63 → answer_of negative (capped m) f (capped_exponent x) ≡ answer_of negative m f x
cap-unseen negative m f x h = capped-number negative m f (capped_exponent x) ∙ capped-exponent negative m f x h

-- ---- a decimal

-- the digits after the point, as they were counted
pub fraction-counted : (text : List ℕ) (start : ℕ) (s : Significand) → s ≡ capped_significand (significand_at text start) → s.after ≡ (significand_at text start).after
unfolding capped_significand
fraction-counted text start s e = ap (λ (q : Significand). q.after) e

module _ (text : List ℕ) (from start : ℕ) (b : start ≡ sign_end text from) (s : Significand) (e : s ≡ capped_significand (significand_at text start)) where
  abbrev S : Significand
  S = significand_at text (sign_end text from)

  here : s ≡ capped_significand S
  here = e ∙ ap (λ (i : ℕ). capped_significand (significand_at text i)) b

  counted : s.digits ≡ S.digits
  unfolding capped_significand
  counted = ap (λ (q : Significand). q.digits) here

  ended : s.end ≡ S.end
  unfolding capped_significand
  ended = ap (λ (q : Significand). q.end) here

  pub no_number : s.digits ≡ 0 → refused NoNumber from ≡ decimal_at text from
  unfolding decimal_at
  no_number z = rw (eq-eqb S.digits 0 (sym counted ∙ z))

  pub answered : (s.digits ≡ 0 → ⊥) → (x : Exponent) → x ≡ capped_exponent (exponent_at text s.end) → (c : ℕ) → c ≡ byte_at text from → s.after < 2 ^ 63
      → answer_of (eqb c minus) s.value s.after x ≡ decimal_at text from
  unfolding decimal_at capped_significand
  answered z x k c h f =
      let v : s.value ≡ capped S.value = ap (λ (q : Significand). q.value) here in
      let a : s.after ≡ S.after = ap (λ (q : Significand). q.after) here in
      let y : x ≡ capped_exponent (exponent_at text S.end) = k ∙ ap (λ (j : ℕ). capped_exponent (exponent_at text j)) ended in
      rw (v, a, y, h, ne_eqb S.digits 0 (λ q. z (counted ∙ q))) (cap-unseen (eqb (byte_at text from) minus) S.value S.after (exponent_at text S.end) (omega (arith, a)))
