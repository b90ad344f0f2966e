-- Powers of ten beyond the f64s: what is times them is infinite, and what is divided by them is 0. Assumes nothing.
use mathlib.Core.Path.{◌≡◌, sym, ap, ap₂, ◌∙◌}
use mathlib.Core.Bool.{Bool, false, cond}
use Prim.Native.Nat.{ℕ, ◌-◌, ◌*◌, ◌/◌, ◌^◌, ◌≤◌, ◌<◌, compare}
use native.Mathlib.Nat.{le_trans, le_of_eq, le_of_lt, lt_of_lt_of_le, lt_of_le_of_lt, mul-one, mul-le-mul, mul-le-mul_right, pow-le-pow_right, div-one, div-eq_of_lt, mod-eq_of_lt}
use native.Mathlib.Omega.{arith}
use lib.Dec.{lit≤, lit<}
use lib.Pow.{pow_mono}
use lib.Ieee.{inf, binary64, size, odd, units, round, of_bits, nearest}
use lib.Ieee.Nearest.{closest}
use lib.Ieee.Order.{drop, kept}
use borrow.Author.Tests.{le-ltb}
use Rattle.nearest.specs.Large.{digit_limit}
use Rattle.nearest.proofs.Scaled.{size-gt, kept-at-least}
use Rattle.nearest.proofs.Patterns.{rounded-is}
use Rattle.nearest.proofs.Closest.{picks-lower}

-- ---- too large

-- 2^1025 or more
large : (num : ℕ) → 2 ^ 1025 ≤ num → round binary64 false num 1 ≡ inf false
unfolding units
large num h =
    let n : ℕ = num * 2 ^ 1074 in
    let s : 2099 < size (n / 1) = size-gt (n / 1) 2099 (le_trans (le_trans (lit≤ tt) (mul-le-mul_right {m = 2 ^ 1025} (2 ^ 1074) h)) (le_of_eq (sym (div-one n)))) in
    let d : 2047 ≤ drop 53 n 1 = omega arith in
    let k : 2 ^ 52 ≤ kept 53 n 1 = kept-at-least n 1 (omega arith) in
    let g : 2 ^ 2098 ≤ kept 53 n 1 * 2 ^ drop 53 n 1 = le_trans (lit≤ tt) (mul-le-mul {n₁ = 2 ^ 52} {m₁ = 2 ^ 2047} k (pow_mono d)) in
    rounded-is num 1 ∙ ap (λ (t : Bool). cond t (odd 54 false (kept 53 n 1) (drop 53 n 1) 1074) (inf false)) (le-ltb (kept 53 n 1 * 2 ^ drop 53 n 1) (2 ^ 2098) g)

pub too-far-up : (m up : ℕ) → 0 < m → 309 ≤ up → round binary64 false (m * 10 ^ up) 1 ≡ inf false
too-far-up m up p h =
    large (m * 10 ^ up)
    (le_trans (lit≤ tt) (mul-le-mul {n₁ = 1} {m₁ = 10 ^ 309} p (pow-le-pow_right {n = 10} (omega arith) h)))

-- ---- too small

-- less than half of the smallest value: nothing is dropped, and 0 is kept
module _ (n den : ℕ) (h : n * 2 < den) where
  none : n / den ≡ 0
  none = div-eq_of_lt (omega arith)

  nothing-dropped : drop 53 n den ≡ 0
  unfolding size
  nothing-dropped = ap (λ (z : ℕ). size z - 53) none

  nothing-kept : kept 53 n den ≡ 0
  nothing-kept =
      ap (λ (z : ℕ). closest n (den * 2 ^ z)) nothing-dropped
      ∙ ap (closest n) (mul-one den)
      ∙ ap₂ (λ (q r : ℕ). nearest q (compare (r * 2) den)) none (mod-eq_of_lt (omega arith))
      ∙ sym (picks-lower 0 (n * 2) den h)

small : (num den : ℕ) → num * 2 ^ 1074 * 2 < den → of_bits binary64 0 ≡ round binary64 false num den
unfolding of_bits units
small num den h =
    sym (rounded-is num den
    ∙ ap₂ (λ (q k : ℕ). units binary64 false q k) (nothing-kept (num * 2 ^ 1074) den h) (nothing-dropped (num * 2 ^ 1074) den h))

pub too-far-down : (m down : ℕ) → m < digit_limit → 343 ≤ down → of_bits binary64 0 ≡ round binary64 false m (10 ^ down)
too-far-down m down p h =
    small m (10 ^ down)
    (lt_of_le_of_lt (mul-le-mul_right 2 (mul-le-mul_right (2 ^ 1074) (le_of_lt p)))
    (lt_of_lt_of_le {m = 10 ^ 343} (lit< tt) (pow-le-pow_right {n = 10} (omega arith) h)))
