-- A fraction n / d rounded to 53 binary digits: how many digits of its whole part are dropped, and what is kept. Assumes nothing.
use mathlib.Core.Path.{◌≡◌, sym, ap, ◌∙◌, subst}
use mathlib.Core.Logic.{inl, inr}
use Prim.Native.Nat.{ℕ, ◌+◌, ◌*◌, ◌/◌, ◌%◌, ◌^◌, ◌≤◌, ◌<◌, compare}
use native.Mathlib.Nat.{le_trans, le_of_eq, lt_of_lt_of_le, lt_of_le_of_lt, lt_of_not-le, not-le_of_lt, mul-one, mul_comm, mul_assoc, mul_left_comm, mul_right_comm, mul-pos, mul-le-mul_right, mul-lt-mul_of_pos_right, div-lt_iff_lt-mul, le-div_iff_mul-le, div-div-eq-div-mul, eq-zero-or-pos, le_of_mul-le-mul_right}
use native.Mathlib.Omega.{arith}
use lib.Pow.{pow-add, pow_pos, pow_mono}
use lib.Ieee.{size}
use lib.Ieee.Digits.{size-lt, size-le, size_reaches}
use lib.Ieee.Fits.{nearest-le}
use lib.Ieee.Nearest.{closest, closest_same, nearest-ge}
use lib.Ieee.Order.{drop, kept}
use Rattle.nearest.specs.Large.{Scaled}

pub size-gt : (n j : ℕ) → 2 ^ j ≤ n → j < size n
size-gt n j h = lt_of_not-le (λ (g : size n ≤ j). not-le_of_lt (lt_of_lt_of_le (size-lt n) (pow_mono g)) h)

-- w is d, doubled 53 + k times
doubled : (d k w : ℕ) → w ≡ d * 2 ^ 53 * 2 ^ k → w ≡ 2 ^ (53 + k) * d
doubled d k w e = e ∙ mul_assoc d (2 ^ 53) (2 ^ k) ∙ ap (λ (z : ℕ). d * z) (sym (pow-add 2 53 k)) ∙ mul_comm d (2 ^ (53 + k))

half : (k d n : ℕ) → 2 ^ (53 + k) * d ≤ n * 2 → 2 ^ (52 + k) * d ≤ n
half k d n h =
    let p : 2 ^ (53 + k) ≡ 2 ^ (52 + k) * 2 = ap (λ (z : ℕ). 2 ^ z) (omega arith) ∙ pow-add 2 (52 + k) 1 in
    le_of_mul-le-mul_right (le_trans (le_of_eq (mul_right_comm (2 ^ (52 + k)) d 2 ∙ ap (λ (z : ℕ). z * d) (sym p))) h) (omega arith)

module _ (n d k w : ℕ) (p : 0 < d) (s : Scaled n (d * 2 ^ 53) k w) where
  at_most : size (n / d) ≤ 53 + k
  at_most = size-le (n / d) (53 + k) ((div-lt_iff_lt-mul p).1 (lt_of_lt_of_le s.above (le_of_eq (doubled d k w s.doubled))))

  at_least : 0 < k → 52 + k < size (n / d)
  at_least h = size-gt (n / d) (52 + k) ((le-div_iff_mul-le p).1 (half k d n (le_trans (le_of_eq (sym (doubled d k w s.doubled))) (s.first h))))

  -- so many digits are dropped
  pub dropped : drop 53 n d ≡ k
  dropped = elim (eq-zero-or-pos k) [ inl z ↦ omega (arith, at_most) | inr h ↦ omega (arith, at_most, at_least h) ]

  -- and this is kept
  pub kept-is : closest (n * 2 ^ 53) w ≡ kept 53 n d
  kept-is =
      closest_same (n * 2 ^ 53) w n (d * 2 ^ k)
      (subst (λ (z : ℕ). 0 < z) (sym s.doubled) (mul-pos (mul-pos p (pow_pos 53)) (pow_pos k)))
      (mul-pos p (pow_pos k))
      (simp (mul_assoc, mul_comm, mul_left_comm) (ap (λ (z : ℕ). n * z) (sym (s.doubled ∙ mul_assoc d (2 ^ 53) (2 ^ k)))))
      ∙ ap (λ (z : ℕ). closest n (d * 2 ^ z)) (sym dropped)

-- at most 53 digits are kept, or the next power of two
pub closest-most : (a b : ℕ) → 0 < b → a < b * 2 ^ 53 → closest a b ≤ 2 ^ 53
closest-most a b p h =
    le_trans (nearest-le (a / b) (compare (a % b * 2) b)) ((div-lt_iff_lt-mul p).1 (lt_of_lt_of_le h (le_of_eq (mul_comm b (2 ^ 53)))))

-- where digits are dropped, 53 are kept: by the last doubling
pub closest-least : (n w : ℕ) → 0 < w → w ≤ n * 2 → 2 ^ 52 ≤ closest (n * 2 ^ 53) w
closest-least n w p h =
    let e : 2 ^ 52 * w ≤ n * 2 ^ 53 = omega arith in
    le_trans ((le-div_iff_mul-le p).1 e) (nearest-ge (n * 2 ^ 53 / w) (compare (n * 2 ^ 53 % w * 2) w))

-- .. and by their number
pub kept-at-least : (n d : ℕ) → 0 < drop 53 n d → 2 ^ 52 ≤ kept 53 n d
kept-at-least n d h =
    let k = drop 53 n d in
    let u = d * 2 ^ k in
    let a : 2 ^ 52 * 2 ^ k ≤ n / d = le_trans (le_of_eq (sym (pow-add 2 52 k))) (size_reaches (n / d) (52 + k) (omega arith)) in
    le_trans (subst (λ (x : ℕ). 2 ^ 52 ≤ x) (div-div-eq-div-mul n d (2 ^ k)) ((le-div_iff_mul-le (pow_pos k)).1 a)) (nearest-ge (n / u) (compare (n % u * 2) u))

-- what is doubled stays within a limit that n, doubled, is within
pub within-limit : (n v k w f l : ℕ) → Scaled n v k w → v * f < l → n * 2 * f < l → w * f < l
within-limit n v k w f l s p q =
    elim (eq-zero-or-pos k) [
      | inl z ↦ subst (λ (x : ℕ). x * f < l) (sym (s.doubled ∙ ap (λ (j : ℕ). v * 2 ^ j) z ∙ mul-one v)) p
      | inr h ↦ lt_of_le_of_lt (mul-le-mul_right f (s.first h)) q
    ]

-- v is doubled if it is not above n at first
pub doubled-once : (n v k w : ℕ) → Scaled n v k w → v ≤ n → 0 < k
doubled-once n v k w s h =
    elim (eq-zero-or-pos k) [
      | inl z ↦ absurd (omega (arith, s.above, s.doubled ∙ ap (λ (j : ℕ). v * 2 ^ j) z ∙ mul-one v))
      | inr g ↦ g
    ]

-- n and w, both doubled j times
module _ (n v k w j : ℕ) (s : Scaled n v k w) where
  pub lifted : (0 < k + j → 0 < k) → Scaled (n * 2 ^ j) v (k + j) (w * 2 ^ j)
  lifted h =
      record {
        doubled = ap (λ (z : ℕ). z * 2 ^ j) s.doubled ∙ mul_assoc v (2 ^ k) (2 ^ j) ∙ ap (λ (z : ℕ). v * z) (sym (pow-add 2 k j));
        above = mul-lt-mul_of_pos_right s.above (pow_pos j);
        first = λ p. le_trans (mul-le-mul_right (2 ^ j) (s.first (h p))) (le_of_eq (mul_right_comm n 2 (2 ^ j)));
      }

  pub lifted-closest : 0 < w → closest (n * 2 ^ 53) w ≡ closest (n * 2 ^ j * 2 ^ 53) (w * 2 ^ j)
  lifted-closest p = closest_same (n * 2 ^ 53) w (n * 2 ^ j * 2 ^ 53) (w * 2 ^ j) p (mul-pos p (pow_pos j)) (simp (mul_assoc, mul_comm, mul_left_comm))
