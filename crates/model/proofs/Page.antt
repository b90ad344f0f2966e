-- The weight page: a share is that of the exact weight and fits its columns, and a loss word can be told from its digits. Assumes nothing.
use mathlib.Core.Path.{◌≡◌, refl, sym, ap, ◌∙◌}
use mathlib.Core.Bool.{Bool, true, false, true≢false, cond, ◌&&◌, ◌||◌}
use mathlib.Core.List.{List, [], ◌∷◌, foldl, foldl-append}
use Prim.Native.Nat.{ℕ, zero, suc, ◌+◌, ◌-◌, ◌*◌, ◌/◌, ◌%◌, ◌^◌, ◌≤◌, ◌<◌}
use native.Mathlib.Nat.{le_trans, le_of_eq, pow-suc, mul_assoc, mul_comm, mul_left_comm, mul_right_comm, mul-le-mul_left, mul-le-mul_right, le_of_mul-le-mul_right, div-le_of_le-mul, lt_of_not-le, not-le_of_lt, mul-le-mul, le-add_right, le_of_suc-le-suc, div-lt_iff_lt-mul, div-add-mod}
use native.Mathlib.Omega.{arith}
use lib.Dec.{eqb, ltb, leb, eqb-suc-zero, lit<}
use lib.IntN.{ℤ}
use lib.Pow.{pow_pos, pow_mono}
use lib.Ieee.{Float, nan, inf, fin, binary64, up, down, odd, of_fields, of_bits, lt, eq, le}
use lib.Ieee.Exact.{HasValue, odd_sign}
use lib.Ieee.Fits.{down_pos}
use lib.Ieee.Nearest.{div_same}
use borrow.Author.Tests.{eqb-true, ltb-true, ltb-false, lt-ltb, le-ltb}
use Rattle.model.specs.Floats.{zero_bits, float, finite, up_to}
use Rattle.model.specs.Numbers.{weight_sound}
use Rattle.model.specs.Sheet.{digit, justified, value_from}
use Rattle.model.specs.Page.{exponent_bits, exponent, significand, share, millionths, hex_digit, hexadecimal}
use Rattle.model.proofs.Lists.{and_both}
use Rattle.model.proofs.Sheet.{justified-read}

-- ---- the weight, by its bits

-- a value, both parts of its fraction doubled
doubled : (x : Float) (s : Bool) (q k l : ℕ) → HasValue x s (q * 2 ^ k) (2 ^ l) → HasValue x s (q * 2 ^ suc k) (2 ^ suc l)
doubled nan s q k l h = h
doubled (inf t) s q k l h = h
doubled (fin t m e) s q k l h =
    (h.0, rw (pow-suc 2 l, pow-suc 2 k) (simp (mul_assoc, mul_comm, mul_left_comm) (simp (mul_assoc, mul_comm, mul_left_comm) at (ap (λ (z : ℕ). z * 2) h.1))))

-- the exponent's bits x and the significand's bits t
fields_value : (s : Bool) (x t : ℕ) → finite (of_fields binary64 s x t) ≡ true
    → HasValue (of_fields binary64 s x t) s (cond (eqb x 0) t (2 ^ 52 + t) * 2 ^ cond (eqb x 0) 1 x) (2 ^ 1075)
unfolding of_fields finite
fields_value s zero t h = doubled (odd 53 s t 0 1074) s t 0 1074 (odd_sign 53 s t 0 1074)
fields_value s (suc x) t h = rw (eqb-suc-zero x) (go (eqb (suc x) 2047) (eqb t 0) h)
  where
    go : (a b : Bool) → finite (cond a (cond b (inf s) nan) (odd 53 s (2 ^ 52 + t) x 1074)) ≡ true
        → HasValue (cond a (cond b (inf s) nan) (odd 53 s (2 ^ 52 + t) x 1074)) s ((2 ^ 52 + t) * 2 ^ suc x) (2 ^ 1075)
    go true true h = absurd (true≢false (sym h))
    go true false h = absurd (true≢false (sym h))
    go false b h = doubled (odd 53 s (2 ^ 52 + t) x 1074) s (2 ^ 52 + t) x 1074 (odd_sign 53 s (2 ^ 52 + t) x 1074)

-- a finite weight is ± significand × 2^exponent / 2^1075, exactly
pub weight_is : (w : ℕ) → finite (float w) ≡ true → HasValue (float w) (leb (2 ^ 63) w) (significand w * 2 ^ exponent w) (2 ^ 1075)
unfolding of_bits significand exponent exponent_bits
weight_is w h = fields_value (leb (2 ^ 63) w) (exponent_bits w) (w % 2 ^ 52) h

-- ---- the share

share-of-value : (x : Float) (s : Bool) (a : ℕ) → HasValue x s a (2 ^ 1075) → 1000000 * a / 2 ^ 1075 ≡ millionths x
unfolding millionths
share-of-value nan s a h = absurd h
share-of-value (inf t) s a h = absurd h
share-of-value (fin t m e) s a h =
    div_same (1000000 * a) (2 ^ 1075) (1000000 * (m * up e)) (down e) (pow_pos 1075) (down_pos e)
    (mul_assoc 1000000 a (down e) ∙ ap (λ (z : ℕ). 1000000 * z) (sym h.1) ∙ sym (mul_assoc 1000000 (m * up e) (2 ^ 1075)))

-- it is the exact weight times 1,000,000, cut down to a whole number
pub share-exact : (w : ℕ) → finite (float w) ≡ true → share w ≡ millionths (float w)
unfolding share
share-exact w h =
    ap (λ (z : ℕ). z / 2 ^ 1075) (mul_assoc 1000000 (significand w) (2 ^ exponent w))
    ∙ share-of-value (float w) (leb (2 ^ 63) w) (significand w * 2 ^ exponent w) (weight_is w h)

-- ---- a sound weight is finite, and 1024 at most

abbrev most : Float
most = float 0x4090_0000_0000_0000

sound-finite : (x : Float) → up_to most x ≡ true → finite x ≡ true
unfolding up_to le lt eq finite of_bits
sound-finite nan h = h
sound-finite (inf true) h = h
sound-finite (inf false) h = h
sound-finite (fin s m e) h = refl

at_most : (a b : ℕ) (t : Bool) → (ltb a b || (eqb a b && t)) ≡ true → a ≤ b
at_most a b t h = go (ltb a b) refl h
  where
    go : (x : Bool) → ltb a b ≡ x → (x || (eqb a b && t)) ≡ true → a ≤ b
    go true p h = omega (arith, ltb-true a b p)
    go false p h = le_of_eq (eqb-true a b (and_both (eqb a b) t h).0)

-- with the sign it can only be -0.0
sound-size : (s : Bool) (m : ℕ) (e : ℤ) → le (float zero_bits) (fin s m e) ≡ true → le (fin s m e) most ≡ true → m * up e ≤ 1024 * down e
unfolding le lt eq of_bits
sound-size true m e z h = omega (arith, eqb-true (0 * down e) (m * up e * 1) (and_both (eqb (0 * down e) (m * up e * 1)) (eqb (0 * down e) 0) z).0)
sound-size false m e z h = omega (arith, at_most (m * up e * 1) (1024 * down e) true h)

sound-value : (x : Float) (s : Bool) (a c : ℕ) → up_to most x ≡ true → HasValue x s a c → a ≤ 1024 * c
unfolding up_to
sound-value nan s a c h v = absurd v
sound-value (inf t) s a c h v = absurd v
sound-value (fin t m e) s a c h v =
    let b = and_both (le (float zero_bits) (fin t m e)) (le (fin t m e) most) h in
    let l : m * up e * c ≤ 1024 * down e * c = mul-le-mul_right c (sound-size t m e b.0 b.1) in
    le_of_mul-le-mul_right (rw (v.1, mul_right_comm 1024 (down e) c) at l) (down_pos e)

-- with the 1 in front, it has no larger exponent
no-larger : (x t : ℕ) → (2 ^ 52 + t) * 2 ^ x ≤ 2 ^ 1085 → x ≤ 1033
no-larger x t h =
    le_of_suc-le-suc
    (lt_of_not-le (λ (g : 1034 ≤ x). not-le_of_lt {n = 2 ^ 1086} {m = 2 ^ 1085} (lit< tt) (le_trans (mul-le-mul {n₁ = 2 ^ 52} {m₁ = 2 ^ 1034} (le-add_right (2 ^ 52) t) (pow_mono g)) h)))

module _ (w : ℕ) (sound : weight_sound w ≡ true) where
  pub weight-finite : finite (float w) ≡ true
  unfolding weight_sound
  weight-finite = sound-finite (float w) sound

  weight-small : significand w * 2 ^ exponent w ≤ 2 ^ 1085
  unfolding weight_sound
  weight-small = sound-value (float w) (leb (2 ^ 63) w) (significand w * 2 ^ exponent w) (2 ^ 1075) sound (weight_is w weight-finite)

  pub exponent_small : exponent w ≤ 1033
  unfolding exponent significand
  exponent_small = go (eqb (exponent_bits w) 0) weight-small
    where
      go : (b : Bool) → cond b (w % 2 ^ 52) (2 ^ 52 + w % 2 ^ 52) * 2 ^ cond b 1 (exponent_bits w) ≤ 2 ^ 1085 → cond b 1 (exponent_bits w) ≤ 1033
      go true h = omega arith
      go false h = no-larger (exponent_bits w) (w % 2 ^ 52) h

  -- ten of the eleven columns
  pub share-small : share w ≤ 1024000000
  unfolding share
  share-small = rw (mul_assoc 1000000 (significand w) (2 ^ exponent w)) (div-le_of_le-mul (2 ^ 1075) (mul-le-mul_left 1000000 weight-small))

  -- so no digit of it is left out
  pub share-read : value_from 0 (justified 11 (share w)) ≡ share w
  share-read = justified-read 11 (share w) (omega arith) (omega (arith, share-small))

-- nor of a place: a list has 256 entries at most
pub place_read : (place : ℕ) → place ≤ 256 → value_from 0 (justified 5 place) ≡ place
place_read place h = justified-read 5 place (omega arith) (omega arith)

-- ---- the loss word

-- the number that hexadecimal digits stand for
abbrev more : ℕ → ℕ → ℕ
more v b = 16 * v + cond (ltb b 65) (b - 48) (b - 55)

abbrev hex_value : List ℕ → ℕ
hex_value l = foldl more 0 l

one_more : (v d : ℕ) → d < 16 → more v (hex_digit d) ≡ 16 * v + d
one_more v d h = go (ltb d 10) refl
  where
    go : (t : Bool) → ltb d 10 ≡ t → more v (cond t (digit d) (65 + (d - 10))) ≡ 16 * v + d
    go true e = rw (lt-ltb (digit d) 65 (omega (arith, ltb-true d 10 e))) (omega arith)
    go false e = rw (le-ltb (65 + (d - 10)) 65 (omega arith)) (omega (arith, ltb-false d 10 e))

hexadecimal-read : (width v : ℕ) → v < 16 ^ width → hex_value (hexadecimal width v) ≡ v
unfolding hexadecimal
hexadecimal-read zero v h = omega arith
hexadecimal-read (suc width) v h =
    let p : 16 ^ suc width ≡ 16 ^ width * 16 = pow-suc 16 width in
    let l : v / 16 < 16 ^ width = (div-lt_iff_lt-mul {k = 16} (omega arith)).1 (omega arith) in
    foldl-append more 0 (hexadecimal width (v / 16)) (hex_digit (v % 16) ∷ [])
    ∙ ap (λ (z : ℕ). more z (hex_digit (v % 16))) (hexadecimal-read width (v / 16) l)
    ∙ one_more (v / 16) (v % 16) (omega arith)
    ∙ div-add-mod v 16

-- 16 digits lose nothing: words with the same digits are equal
pub same_digits : (v w : ℕ) → v < 2 ^ 64 → w < 2 ^ 64 → hexadecimal 16 v ≡ hexadecimal 16 w → v ≡ w
same_digits v w h l e = sym (hexadecimal-read 16 v h) ∙ ap hex_value e ∙ hexadecimal-read 16 w l
