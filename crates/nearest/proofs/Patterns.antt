-- The bits of q × 2^k of the smallest f64s. Assumes nothing.
use mathlib.Core.Path.{◌≡◌, refl, sym, ap, ap₂, ◌∙◌, subst}
use mathlib.Core.Logic.{inl, inr}
use mathlib.Core.Bool.{Bool, true, false, cond}
use Prim.Native.Nat.{ℕ, zero, suc, ◌+◌, ◌-◌, ◌*◌, ◌/◌, ◌^◌, ◌≤◌, ◌<◌}
use native.Mathlib.Nat.{le_trans, le_of_eq, lt_of_lt_of_le, lt_of_le_of_lt, eq-or-lt_of_le, mul_comm, mul_assoc, mul-le-mul, mul-le-mul_left, mul-le-mul_right, mul-lt-mul_of_pos_right, mul-div_cancel, zero-add, eq-zero-or-pos}
use native.Mathlib.Omega.{arith}
use lib.Dec.{ltb, lit≤, lit<}
use lib.Pow.{pow-add, pow_pos, pow_mono, shl_lt}
use lib.Ieee.{Float, nan, inf, fin, binary64, up, down, size, odd, units, round, of_bits, to_bits, lt}
use lib.Ieee.Scale.{finite}
use lib.Ieee.Bits.{of_bits-to_bits}
use lib.Ieee.Nearest.{closest}
use lib.Ieee.Order.{drop, kept}
use lib.Ieee.Digits.{size-le}
use lib.Ieee.Exact.{HasValue, units_val}
use lib.Ieee.Fits.{down_pos, round_is, round-fits}
use borrow.Author.Tests.{le-ltb}
use Rattle.nearest.specs.Large.{Scaled, IsRounded}
use Rattle.nearest.proofs.Scaled.{size-gt, dropped, kept-is}

-- ---- a finite value

-- the bits of a number of the smallest f64s
abbrev fields : ℕ → ℕ
fields a = (size a - 53) * 2 ^ 52 + a / 2 ^ (size a - 53)

bits_of_value : (x : Float) (a : ℕ) → HasValue x false a (2 ^ 1074) → to_bits binary64 x ≡ fields a
unfolding to_bits
bits_of_value nan a h = absurd h
bits_of_value (inf s) a h = absurd h
bits_of_value (fin s m e) a h =
    let n : m * up e * 2 ^ 1074 / down e ≡ a = ap (λ (z : ℕ). z / down e) h.1 ∙ mul-div_cancel a (down_pos e) in
    rw (h.0, n, zero-add)

-- with 53 digits and j zeros after them
normal : (p j : ℕ) → 2 ^ 52 ≤ p → p < 2 ^ 53 → fields (p * 2 ^ j) ≡ j * 2 ^ 52 + p
normal p j l h =
    let a : size (p * 2 ^ j) ≤ 53 + j = size-le (p * 2 ^ j) (53 + j) (shl_lt 53 j h) in
    let b : 52 + j < size (p * 2 ^ j) = size-gt (p * 2 ^ j) (52 + j) (le_trans (le_of_eq (pow-add 2 52 j)) (mul-le-mul_right (2 ^ j) l)) in
    let k : size (p * 2 ^ j) - 53 ≡ j = omega arith in
    ap (λ (z : ℕ). z * 2 ^ 52 + p * 2 ^ j / 2 ^ z) k ∙ ap (λ (z : ℕ). j * 2 ^ 52 + z) (mul-div_cancel p (pow_pos j))

-- with at most 53 digits and no zeros
low : (q : ℕ) → q < 2 ^ 53 → fields (q * 2 ^ 0) ≡ 0 * 2 ^ 52 + q
low q h =
    let a : size (q * 2 ^ 0) ≤ 53 = size-le (q * 2 ^ 0) 53 (shl_lt 53 0 h) in
    let k : size (q * 2 ^ 0) - 53 ≡ 0 = omega arith in
    ap (λ (z : ℕ). z * 2 ^ 52 + q * 2 ^ 0 / 2 ^ z) k ∙ ap (λ (z : ℕ). 0 * 2 ^ 52 + z) (mul-div_cancel q (pow_pos 0))

-- 2^53 is 53 digits and one zero more
carried : (k : ℕ) → 2 ^ 53 * 2 ^ k ≡ 2 ^ 52 * 2 ^ (k + 1)
carried k = sym (ap (λ (z : ℕ). 2 ^ 52 * z) (pow-add 2 k 1 ∙ mul_comm (2 ^ k) 2) ∙ sym (mul_assoc (2 ^ 52) 2 (2 ^ k)))

module _ (q k : ℕ) (most : q ≤ 2 ^ 53) (least : 0 < k → 2 ^ 52 ≤ q) where
  fields-are : fields (q * 2 ^ k) ≡ k * 2 ^ 52 + q
  fields-are =
      elim (eq-or-lt_of_le most) [
        | inl e ↦ ap (λ (z : ℕ). fields (z * 2 ^ k)) e ∙ ap fields (carried k) ∙ normal (2 ^ 52) (k + 1) (omega arith) (omega arith) ∙ (omega (arith, e))
        | inr l ↦
            elim (eq-zero-or-pos k) [
              | inl z ↦ ap (λ (j : ℕ). fields (q * 2 ^ j)) z ∙ low q l ∙ (omega (arith, z))
              | inr h ↦ normal q k (least h) l
            ]
      ]

  -- ---- the largest

  pub too_large : 2047 * 2 ^ 52 ≤ k * 2 ^ 52 + q → 2 ^ 2098 ≤ q * 2 ^ k
  too_large h =
      let l : 2045 ≤ k = omega arith in
      elim (eq-or-lt_of_le l) [
        | inl e ↦ le_trans (lit≤ tt) (mul-le-mul {n₁ = 2 ^ 53} {m₁ = 2 ^ 2045} (omega (arith, e)) (pow_mono l))
        | inr g ↦ le_trans (lit≤ tt) (mul-le-mul {n₁ = 2 ^ 52} {m₁ = 2 ^ 2046} (least (omega arith)) (pow_mono g))
      ]

  pub not-too-large : k * 2 ^ 52 + q < 2047 * 2 ^ 52 → q * 2 ^ k < 2 ^ 2098
  not-too-large h =
      let l : k ≤ 2045 = elim (eq-zero-or-pos k) [ inl z ↦ omega (arith, z) | inr g ↦ omega (arith, least g) ] in
      elim (eq-or-lt_of_le l) [
        | inl e ↦ lt_of_lt_of_le (mul-lt-mul_of_pos_right {n = 2 ^ 53} (omega (arith, e)) (pow_pos k)) (le_trans (mul-le-mul_left (2 ^ 53) (pow_mono l)) (lit≤ tt))
        | inr g ↦ lt_of_le_of_lt (mul-le-mul {n₂ = 2 ^ 53} {m₂ = 2 ^ 2044} most (pow_mono {i = k} {j = 2044} (omega arith))) (lit< tt)
      ]

  pub finite-pattern : q * 2 ^ k < 2 ^ 2098 → k * 2 ^ 52 + q ≡ to_bits binary64 (units binary64 false q k)
  finite-pattern h = sym (bits_of_value (units binary64 false q k) (q * 2 ^ k) (units_val binary64 false q k h) ∙ fields-are)

  pub infinite-pattern : 2 ^ 2098 ≤ q * 2 ^ k → 0x7ff0_0000_0000_0000 ≡ to_bits binary64 (units binary64 false q k)
  unfolding to_bits units
  infinite-pattern h = ap (λ (t : Bool). to_bits binary64 (cond t (odd 54 false q k 1074) (inf false))) (sym (le-ltb (q * 2 ^ k) (2 ^ 2098) h))

-- ---- `round` is such a value

pub rounded-is : (num den : ℕ) → round binary64 false num den ≡ units binary64 false (kept 53 (num * 2 ^ 1074) den) (drop 53 (num * 2 ^ 1074) den)
rounded-is num den = round_is binary64 false num den

-- below infinity exactly if it is finite
units-below : (q k : ℕ) → lt (units binary64 false q k) (inf false) ≡ finite (units binary64 false q k)
unfolding units lt odd
units-below q k = go (ltb (q * 2 ^ k) (2 ^ 2098)) q
  where
    go : (t : Bool) (q : ℕ) → lt (cond t (odd 54 false q k 1074) (inf false)) (inf false) ≡ finite (cond t (odd 54 false q k 1074) (inf false))
    go true zero = refl
    go true (suc q) = refl
    go false q = refl

pub below-infinity : (x : Float) (num den : ℕ) → x ≡ round binary64 false num den → lt x (inf false) ≡ finite x
below-infinity x num den e =
    subst (λ (y : Float). lt y (inf false) ≡ finite y) (sym (e ∙ rounded-is num den)) (units-below (kept 53 (num * 2 ^ 1074) den) (drop 53 (num * 2 ^ 1074) den))

pub is-rounded : (n v k w q bits : ℕ) → Scaled n v k w → q ≡ closest (n * 2 ^ 53) w → bits ≡ to_bits binary64 (units binary64 false q k) → IsRounded n v bits
is-rounded n v k w q bits s e b =
    record {
      is = λ num den p x y.
          let t : Scaled n (den * 2 ^ 53) k w = subst (λ (z : ℕ). Scaled n z k w) y s in
          b
          ∙ ap₂ (λ (i j : ℕ). to_bits binary64 (units binary64 false i j)) (e ∙ kept-is n den k w p t) (sym (dropped n den k w p t))
          ∙ ap (λ (z : ℕ). to_bits binary64 (units binary64 false (kept 53 z den) (drop 53 z den))) x
          ∙ ap (to_bits binary64) (sym (rounded-is num den));
    }

-- read back, its bits are the value
pub read_back : (num den bits : ℕ) → bits ≡ to_bits binary64 (round binary64 false num den) → of_bits binary64 bits ≡ round binary64 false num den
read_back num den bits e = ap (of_bits binary64) e ∙ of_bits-to_bits binary64 (round binary64 false num den) (round-fits binary64 false num den)
