-- Bits, and what a bit selects: a bit of a XOR is the XOR of the bits, so what it selects is the XOR of what they select. Assumes nothing.
use mathlib.Core.Path.{◌≡◌, refl, sym, ap, ◌∙◌}
use Prim.Native.Nat.{ℕ, zero, suc, ◌+◌, ◌*◌, ◌-◌, ◌/◌, ◌%◌, ◌^◌, ◌<◌, ◌≤◌}
use native.Mathlib.Nat.{one-mul, zero-div, mul-le-mul, div-eq_of_lt, eq-zero-or-pos}
use native.Mathlib.Omega.{arith}
use mathlib.Core.Logic.{⊎_elim}
use lib.Pow.{shl-shr, pow-add, pow-lt}
use lib.Bits.{bit_xor, xor_shr, xor_mod, xor_self, xor_zero_r}
use Rattle.model.specs.Keys.{bit, if_set}

pub if_set-clear : (b m : ℕ) → b ≡ 0 → 0 ≡ if_set b m
unfolding if_set
if_set-clear b m e = sym (ap (λ (x : ℕ). if_set x m) e)

pub if_set-set : (b m : ℕ) → (b ≡ 0 → ⊥) → m ≡ if_set b m
unfolding if_set
if_set-set zero m h = absurd (h refl)
if_set-set (suc b) m h = refl

pub bit-lt : (q w : ℕ) → bit q w < 2
bit-lt q w = omega arith

-- a bit of a XOR
pub bit-xor : (q a b : ℕ) → bit q (bit_xor a b) ≡ bit_xor (bit q a) (bit q b)
bit-xor q a b = ap (λ (x : ℕ). x % 2) (xor_shr a b q) ∙ xor_mod (a / 2 ^ q) (b / 2 ^ q) 1

-- what the XOR of two bits selects
pub if_set-bits : (a b m : ℕ) → a < 2 → b < 2 → if_set (bit_xor a b) m ≡ bit_xor (if_set a m) (if_set b m)
unfolding if_set
if_set-bits zero b m ha hb = refl
if_set-bits (suc zero) zero m ha hb = sym (xor_zero_r m)
if_set-bits (suc zero) (suc zero) m ha hb = sym (xor_self m)
if_set-bits (suc zero) (suc (suc b)) m ha hb = omega arith
if_set-bits (suc (suc a)) b m ha hb = omega arith

pub if_set-xor : (q a b m : ℕ) → if_set (bit q (bit_xor a b)) m ≡ bit_xor (if_set (bit q a) m) (if_set (bit q b) m)
if_set-xor q a b m = ap (λ (x : ℕ). if_set x m) (bit-xor q a b) ∙ if_set-bits (bit q a) (bit q b) m (bit-lt q a) (bit-lt q b)

-- the bits of a power of two
pub bit-pow-same : (q : ℕ) → bit q (2 ^ q) ≡ 1
bit-pow-same q = ap (λ (x : ℕ). x / 2 ^ q % 2) (sym (one-mul (2 ^ q))) ∙ ap (λ (x : ℕ). x % 2) (shl-shr 1 q)

pub bit-pow-other : (j q : ℕ) → (j ≡ q → ⊥) → bit j (2 ^ q) ≡ 0
bit-pow-other j q ne =
    ⊎_elim
    (λ (h : q - j ≡ 0). ap (λ (x : ℕ). x % 2) (div-eq_of_lt (pow-lt (omega arith))))
    (λ (h : 0 < q - j).
    let e : q ≡ suc (q - suc j) + j = omega arith in
    ap (λ (x : ℕ). 2 ^ x / 2 ^ j % 2) e ∙ ap (λ (x : ℕ). x / 2 ^ j % 2) (pow-add 2 (suc (q - suc j)) j)
    ∙ ap (λ (x : ℕ). x % 2) (shl-shr (2 ^ suc (q - suc j)) j) ∙ omega arith)
    (eq-zero-or-pos (q - j))

-- a bit that is picked stands at its place
pub bit-none : (q : ℕ) → bit q 0 ≡ 0
bit-none q = ap (λ (x : ℕ). x % 2) (zero-div (2 ^ q))

pub bit-picked : (q b : ℕ) → b < 2 → bit q (if_set b (2 ^ q)) ≡ b
unfolding if_set
bit-picked q zero h = bit-none q
bit-picked q (suc zero) h = bit-pow-same q
bit-picked q (suc (suc b)) h = absurd (omega arith)

-- a product of two bits is a bit
pub product_lt : (a b : ℕ) → a < 2 → b < 2 → a * b < 2
product_lt a b ha hb =
    let h : a ≤ 1 = omega arith in
    let k : b ≤ 1 = omega arith in
    let l : a * b ≤ 1 * 1 = mul-le-mul h k in
    omega arith
