-- Floats that hold whole numbers exactly: multiplied or divided, they give the product or the quotient, rounded once. Assumes nothing.
use mathlib.Core.Path.{◌≡◌, refl, sym, ap, ◌∙◌, subst}
use mathlib.Core.Bool.{Bool, true, false, true≢false, not, ◌&&◌}
use mathlib.Core.List.{List, [], ◌∷◌}
use Prim.Native.Nat.{ℕ, zero, suc, ◌+◌, ◌*◌, ◌^◌, ◌<◌}
use native.Mathlib.Nat.{zero-mul, mul-one, mul_assoc, mul_comm, mul_left_comm, mul-pos, lt_of_lt_of_le, pow-suc, pow-succ'}
use native.Mathlib.Omega.{arith}
use lib.Dec.{eqb, lit≤}
use lib.IntN.{pos}
use lib.Pow.{pow_mono, shl_lt}
use lib.Ieee.{Float, nan, inf, fin, binary64, up, down, of_int, mul, div, round}
use lib.Ieee.Exact.{HasValue, round_exact}
use lib.Ieee.Fits.{down_pos}
use lib.Ieee.Scale.{round_same}
use lib.ListN.{length, get_or}
use borrow.Author.Tests.{ne_eqb, eqb-true}

-- ---- a whole number below 2^53 as a float

pub whole-exact : (m : ℕ) → m < 2 ^ 53 → HasValue (of_int binary64 (pos m)) false m 1
unfolding of_int
whole-exact m h =
    round_exact binary64 false m 1 m 1074 (omega arith) h
    (lt_of_lt_of_le (shl_lt 53 1074 h) (pow_mono {i = 53 + 1074} {j = 1074 + 1024} (lit≤ tt)))
    (sym (mul-one (m * 2 ^ 1074)))

-- ---- a product and a quotient

-- two sizes, as fractions
size : (a m e : ℕ) → a * 1 ≡ m * e → a ≡ m * e
size a m e h = sym (mul-one a) ∙ h

cross : (a b d e m n : ℕ) → a ≡ m * e → b ≡ n * d → a * d * n ≡ m * (b * e)
cross a b d e m n p q = rw (p, q) (simp (mul_assoc, mul_comm, mul_left_comm))

crossed : (a b d e m n : ℕ) → a ≡ m * e → b ≡ n * d → a * b * 1 ≡ m * n * (e * d)
crossed a b d e m n p q = rw (p, q) (simp (mul-one, mul_assoc, mul_comm, mul_left_comm))

above : (b u : ℕ) → 0 < b * u → b ≡ 0 → ⊥
above b u h z = omega (arith, ap (λ (v : ℕ). v * u) z, zero-mul u)

pub quotient-rounded : (x y : Float) (m n : ℕ) → 0 < n → HasValue x false m 1 → HasValue y false n 1 → div binary64 x y ≡ round binary64 false m n
unfolding div
quotient-rounded nan y m n p h k = absurd h
quotient-rounded (inf s) y m n p h k = absurd h
quotient-rounded (fin s a e) nan m n p h k = absurd k
quotient-rounded (fin s a e) (inf t) m n p h k = absurd k
quotient-rounded (fin s a e) (fin t b d) m n p h k =
    let x : a * up e ≡ m * down e = size (a * up e) m (down e) h.1 in
    let y : b * up d ≡ n * down d = size (b * up d) n (down d) k.1 in
    let large : 0 < b * up d = subst (λ (z : ℕ). 0 < z) (sym y) (mul-pos p (down_pos d)) in
    rw (h.0, k.0, ne_eqb b 0 (λ z. above b (up d) large z))
    (round_same binary64 false (a * up e * down d) (b * up d * down e) m n (mul-pos large (down_pos e)) p (cross (a * up e) (b * up d) (down d) (down e) m n x y))

pub product-rounded : (x y : Float) (m n : ℕ) → HasValue x false m 1 → HasValue y false n 1 → mul binary64 x y ≡ round binary64 false (m * n) 1
unfolding mul
product-rounded nan y m n h k = absurd h
product-rounded (inf s) y m n h k = absurd h
product-rounded (fin s a e) nan m n h k = absurd k
product-rounded (fin s a e) (inf t) m n h k = absurd k
product-rounded (fin s a e) (fin t b d) m n h k =
    let x : a * up e ≡ m * down e = size (a * up e) m (down e) h.1 in
    let y : b * up d ≡ n * down d = size (b * up d) n (down d) k.1 in
    rw (h.0, k.0)
    (round_same binary64 false (a * up e * (b * up d)) (down e * down d) (m * n) 1 (mul-pos (down_pos e) (down_pos d)) (omega arith) (crossed (a * up e) (b * up d) (down d) (down e) m n x y))

-- ---- powers of ten

pub ten-pos : (k : ℕ) → 0 < 10 ^ k
ten-pos zero = omega arith
ten-pos (suc k) = subst (λ (n : ℕ). 0 < n) (sym (pow-suc 10 k)) (mul-pos (ten-pos k) (omega arith))

-- n, exact
unfoldable pub exactly : ℕ → Float → Bool
exactly n nan = false
exactly n (inf s) = false
exactly n (fin s m e) = not s && eqb (m * up e * 1) (n * down e)

-- n first, and then each ten times the one before
unfoldable pub tenfold : ℕ → List Float → Bool
tenfold n [] = true
tenfold n (x ∷ xs) = exactly n x && tenfold (n * 10) xs

exact : (n : ℕ) (x : Float) → exactly n x ≡ true → HasValue x false n 1
unfolding exactly
exact n nan h = true≢false (sym h)
exact n (inf s) h = true≢false (sym h)
exact n (fin true m e) h = absurd (true≢false (sym h))
exact n (fin false m e) h = (refl, eqb-true (m * up e * 1) (n * down e) h)

both : (a b : Bool) → (a && b) ≡ true → (a ≡ true) × (b ≡ true)
both true b h = (refl, h)
both false b h = absurd (true≢false (sym h))

pub power_at : (n : ℕ) (xs : List Float) (d : Float) → tenfold n xs ≡ true → (k : ℕ) → k < length xs → HasValue (get_or xs k d) false (n * 10 ^ k) 1
unfolding tenfold
power_at n [] d h k l = absurd (omega arith)
power_at n (x ∷ xs) d h zero l = subst (λ (z : ℕ). HasValue x false z 1) (sym (mul-one n)) (exact n x (both (exactly n x) (tenfold (n * 10) xs) h).0)
power_at n (x ∷ xs) d h (suc k) l =
    subst (λ (z : ℕ). HasValue (get_or xs k d) false z 1) (mul_assoc n 10 (10 ^ k) ∙ ap (λ (z : ℕ). n * z) (sym (pow-succ' 10 k)))
    (power_at (n * 10) xs d (both (exactly n x) (tenfold (n * 10) xs) h).1 k (omega arith))
