-- Room for the numbers: m × 10^up × 64^count and 10^down × 2^53, with powers of ten up to a largest. Assumes nothing.
use mathlib.Core.Path.{◌≡◌, sym, ◌∙◌}
use mathlib.Core.List.{List}
use Prim.Native.Nat.{ℕ, ◌*◌, ◌^◌, ◌≤◌, ◌<◌}
use native.Mathlib.Nat.{le_trans, le_of_eq, le_of_lt, lt_of_le_of_lt, one-mul, mul-pos, mul-le-mul, mul-le-mul_right, one-le-pow, pow-le-pow_right}
use native.Mathlib.Omega.{arith}
use lib.ListN.{length}
use Rattle.nearest.specs.Large.{digit_limit, limit, Sized}

module _ (m up most : ℕ) (h : m < digit_limit) (k : up ≤ most) where
  largest : m * 10 ^ up ≤ digit_limit * 10 ^ most
  largest = mul-le-mul (le_of_lt h) (pow-le-pow_right {n = 10} (omega arith) k)

module _ (n v room : List ℕ) (bytes m up down count most least : ℕ) where
  pub sized : length n ≡ bytes → length v ≡ bytes → length room ≡ bytes → m < digit_limit → up ≤ most → down ≤ least → count ≤ 179
      → digit_limit * 10 ^ most * 64 ^ count < limit → digit_limit * 10 ^ most * 64 ^ count * 2 ^ 57 < 256 ^ bytes → 10 ^ least * 2 ^ 53 * 2 ^ 57 < 256 ^ bytes
      → (count < 179 → 10 ^ down * 2 ^ 53 ≤ m * 10 ^ up * 64 ^ count) → Sized n v room m up down count
  sized x y z h u d c l a b g =
      let t : m * 10 ^ up * 64 ^ count ≤ digit_limit * 10 ^ most * 64 ^ count = mul-le-mul_right (64 ^ count) (largest m up most h u) in
      let p : 10 ^ down ≤ 10 ^ least = pow-le-pow_right {n = 10} (omega arith) d in
      record {
        same = y ∙ sym x;
        place = z ∙ sym x;
        small = lt_of_le_of_lt t l;
        dividend = rw x (lt_of_le_of_lt (mul-le-mul_right (2 ^ 57) t) a);
        divisor = rw x (lt_of_le_of_lt (mul-le-mul_right (2 ^ 57) (mul-le-mul_right (2 ^ 53) p)) b);
        most = c;
        normal = g;
      }

-- v is at most n, where it is with the largest power below and m = 1
pub not-below : (m up down count least : ℕ) → 0 < m → down ≤ least → 10 ^ least * 2 ^ 53 ≤ 64 ^ count → 10 ^ down * 2 ^ 53 ≤ m * 10 ^ up * 64 ^ count
not-below m up down count least p d h =
    le_trans (mul-le-mul_right (2 ^ 53) (pow-le-pow_right {n = 10} (omega arith) d))
    (le_trans h
    (le_trans (le_of_eq (sym (one-mul (64 ^ count))))
    (mul-le-mul_right (64 ^ count) (mul-pos p (one-le-pow up 10 (omega arith))))))
