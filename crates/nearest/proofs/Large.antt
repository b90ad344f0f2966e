-- Numbers of many bytes, multiplied by a small number and compared, byte by byte. Assumes nothing.
use mathlib.Core.Path.{◌≡◌, refl, sym, ap, ap₂, ◌∙◌, subst}
use mathlib.Core.Bool.{Bool, true, false, cond}
use mathlib.Core.List.{List, [], ◌∷◌, ◌++◌, append-nil}
use Prim.Native.Nat.{ℕ, zero, suc, ◌+◌, ◌-◌, ◌*◌, ◌/◌, ◌%◌, ◌^◌, ◌≤◌, ◌<◌}
use native.Mathlib.Nat.{le_trans, le_of_eq, lt_of_le_of_lt, lt_of_lt_of_le, lt_of_not-le, not-le_of_lt, one-mul, mul-one, mul-zero, mul-suc, mul_comm, mul_assoc, add-mul, mul-le-mul, mul-le-mul_left, mul-le-mul_right, le-mul_of_pos_right, pow-le-pow_left, pow-le-pow_right, div-add-mod, mod-one, mod-eq_of_lt, div-eq_of_lt-le, pow-zero, pow-suc, add-zero}
use lib.Pow.{pow-add, pow_mono}
use native.Mathlib.Numerals.{add-one}
use native.Mathlib.Omega.{arith}
use lib.Arith.{mod-mul, lt_of_le-ne}
use lib.Dec.{eqb, ltb}
use lib.ListN.{length, get_or, take, drop, set, drop_of_length-le}
use lib.Seq.{drop-cons, take_all, take-suc-set, drop-set-lt, append_snoc}
use borrow.Author.Tests.{lt-ltb, le-ltb, ltb-true, ltb-false, eqb-true, eqb-false}
use Rattle.nearest.specs.Large.{value_of, limit}

-- ---- a product

-- the bytes of a product by f, with a carry c
unfoldable pub product : ℕ → ℕ → List ℕ → List ℕ
product f c [] = []
product f c (b ∷ bs) = (b * f + c) % 256 ∷ product f ((b * f + c) / 256) bs

-- one byte of a product, by itself
split : (b v f c : ℕ) → (b + 256 * v) * f + c ≡ b * f + c + 256 * (v * f)
split b v f c = omega (arith, add-mul b (256 * v) f, mul_assoc 256 v f)

powers-pos : (n : ℕ) → 0 < 256 ^ n
powers-pos zero = omega arith
powers-pos (suc n) = omega (arith, pow-suc 256 n, powers-pos n)

product_value : (f c : ℕ) (bs : List ℕ) → value_of (product f c bs) ≡ (value_of bs * f + c) % 256 ^ length bs
unfolding value_of product
product_value f c [] = sym (mod-one (0 * f + c))
product_value f c (b ∷ bs) =
    let x : ℕ = b * f + c in
    let p : ℕ = value_of bs * f in
    let y : ℕ = (b + 256 * value_of bs) * f + c in
    let e : y ≡ x + 256 * p = split b (value_of bs) f c in
    let d : y / 256 ≡ p + x / 256 = omega arith in
    let m : y % 256 ≡ x % 256 = omega arith in
    let s : y % 256 ^ suc (length bs) ≡ y / 256 % 256 ^ length bs * 256 + y % 256 = ap (λ (z : ℕ). y % z) (pow-suc 256 (length bs)) ∙ mod-mul y {m = 256 ^ length bs} {c = 256} (powers-pos (length bs)) (omega arith) in
    let h : value_of (product f (x / 256) bs) ≡ y / 256 % 256 ^ length bs = product_value f (x / 256) bs ∙ ap (λ (z : ℕ). z % 256 ^ length bs) (sym d) in
    omega arith

-- .. of which nothing is lost
pub product_whole : (f c v : ℕ) (a r : List ℕ) → r ≡ product f c a → value_of a * f + c ≡ v → v < 256 ^ length a → value_of r ≡ v
product_whole f c v a r e w h = ap value_of e ∙ product_value f c a ∙ ap (λ (z : ℕ). z % 256 ^ length a) w ∙ mod-eq_of_lt h

module _ (f : ℕ) (p : List ℕ) (i c : ℕ) where
  -- the first i bytes are those of the product p, and c is carried
  abbrev pub Multiplied : List ℕ → Type 0
  Multiplied r = take i r ++ product f c (drop i r) ≡ p

  pub product-next : (r : List ℕ) (x : ℕ) → x ≡ get_or r i 0 * f + c → i < length r → Multiplied r
      → take (i + 1) (set r i (x % 256)) ++ product f (x / 256) (drop (i + 1) (set r i (x % 256))) ≡ p
  unfolding product
  product-next r x y h e =
      let n : drop i r ≡ get_or r i 0 ∷ drop (suc i) r = drop-cons r i 0 h in
      let d : ℕ = x % 256 in
      let k : ℕ = x / 256 in
      rw (add-one i, take-suc-set r i d h, drop-set-lt (suc i) r i d (omega arith), append_snoc (take i r) d (product f k (drop (suc i) r)), y)
      (ap (λ (l : List ℕ). take i r ++ product f c l) (sym n) ∙ e)

  pub product-end : (r : List ℕ) → length r ≤ i → Multiplied r → r ≡ p
  unfolding product
  product-end r h e = sym (ap₂ (λ x y. x ++ product f c y) (take_all i r h) (drop_of_length-le r {i = i} h) ∙ append-nil r) ∙ e

-- ---- a comparison

-- whether x is below y: by the highest byte that differs; t if none does
unfoldable pub below : Bool → List ℕ → List ℕ → Bool
below t [] ys = t
below t (x ∷ xs) [] = t
below t (x ∷ xs) (y ∷ ys) = below (cond (eqb x y) t (ltb x y)) xs ys

-- 1 for true, 0 for false
abbrev bit : Bool → ℕ
bit true = 1
bit false = 0

bit_le : (t : Bool) → bit t ≤ 1
bit_le true = omega arith
bit_le false = omega arith

same_test : (a b c d : ℕ) → (a < b → c < d) → (b ≤ a → d ≤ c) → ltb a b ≡ ltb c d
same_test a b c d f g = go (ltb a b) refl
  where
    go : (t : Bool) → ltb a b ≡ t → ltb a b ≡ ltb c d
    go true e = e ∙ sym (lt-ltb c d (f (ltb-true a b e)))
    go false e = e ∙ sym (le-ltb c d (g (ltb-false a b e)))

-- the lowest byte counts only if the others are the same
low_byte : (t : Bool) (x y v w : ℕ) → x < 256 → y < 256 → ltb v (w + bit (cond (eqb x y) t (ltb x y))) ≡ ltb (x + 256 * v) (y + 256 * w + bit t)
low_byte t x y v w hx hy = go (eqb x y) refl
  where
    differ : (s : Bool) → ltb x y ≡ s → (x ≡ y → ⊥) → ltb v (w + bit s) ≡ ltb (x + 256 * v) (y + 256 * w + bit t)
    differ true e n = same_test v (w + 1) (x + 256 * v) (y + 256 * w + bit t) (λ h. omega (arith, ltb-true x y e)) (λ h. omega (arith, bit_le t))
    differ false e n = same_test v (w + 0) (x + 256 * v) (y + 256 * w + bit t) (λ h. omega arith) (λ h. omega (arith, bit_le t, ltb-false x y e, lt_of_le-ne (ltb-false x y e) (λ q. n (sym q))))

    go : (s : Bool) → eqb x y ≡ s → ltb v (w + bit (cond s t (ltb x y))) ≡ ltb (x + 256 * v) (y + 256 * w + bit t)
    go true e =
        same_test v (w + bit t) (x + 256 * v) (y + 256 * w + bit t) (λ h. omega (arith, bit_le t, eqb-true x y e)) (λ h. omega (arith, bit_le t, eqb-true x y e))
    go false e = differ (ltb x y) refl (eqb-false x y e)

below-value : (t : Bool) (xs ys : List ℕ) → length xs ≡ length ys → ((i : ℕ) → get_or xs i 0 < 256) → ((i : ℕ) → get_or ys i 0 < 256)
    → below t xs ys ≡ ltb (value_of xs) (value_of ys + bit t)
unfolding below value_of
below-value true [] [] l p q = refl
below-value false [] [] l p q = refl
below-value t [] (y ∷ ys) l p q = absurd (omega arith)
below-value t (x ∷ xs) [] l p q = absurd (omega arith)
below-value t (x ∷ xs) (y ∷ ys) l p q =
    below-value (cond (eqb x y) t (ltb x y)) xs ys (omega arith) (λ i. p (suc i)) (λ i. q (suc i)) ∙ low_byte t x y (value_of xs) (value_of ys) (p 0) (q 0)

pub below-is : (xs ys : List ℕ) → length xs ≡ length ys → ((i : ℕ) → get_or xs i 0 < 256) → ((i : ℕ) → get_or ys i 0 < 256) → below false xs ys ≡ ltb (value_of xs) (value_of ys)
below-is xs ys l p q = below-value false xs ys l p q ∙ ap (λ (z : ℕ). ltb (value_of xs) z) (add-zero (value_of ys))

module _ (xs ys : List ℕ) (i : ℕ) (t : Bool) (h : i < length xs) (k : i < length ys) where
  pub next-byte : (s : Bool) → s ≡ cond (eqb (get_or xs i 0) (get_or ys i 0)) t (ltb (get_or xs i 0) (get_or ys i 0)) → below s (drop (i + 1) xs) (drop (i + 1) ys) ≡ below t (drop i xs) (drop i ys)
  unfolding below
  next-byte s e = rw (e, add-one i) (sym (ap₂ (below t) (drop-cons xs i 0 h) (drop-cons ys i 0 k)))

pub below_end : (xs ys : List ℕ) (i : ℕ) (t : Bool) → length xs ≤ i → below t (drop i xs) (drop i ys) ≡ t
unfolding below
below_end xs ys i t h = ap (λ (l : List ℕ). below t l (drop i ys)) (drop_of_length-le xs {i = i} h)

-- ---- a product by a power

pub none_yet : (a f : ℕ) → a ≡ a * f ^ 0
none_yet a f = sym (ap (λ (z : ℕ). a * z) (pow-zero f) ∙ mul-one a)

-- one factor more
pub one_more : (v w a f i : ℕ) → v ≡ a * f ^ i → w ≡ v * f → w ≡ a * f ^ (i + 1)
one_more v w a f i p q = q ∙ ap (λ (z : ℕ). z * f) p ∙ mul_assoc a (f ^ i) f ∙ ap (λ (z : ℕ). a * z) (sym (pow-suc f i) ∙ ap (λ (k : ℕ). f ^ k) (sym (add-one i)))

-- has room if all of them have
pub room-left : (v a f i n room : ℕ) → 0 < f → i < n → v ≡ a * f ^ i → a * f ^ n < room → v * f < room
room-left v a f i n room p h e r =
    lt_of_le_of_lt (le_trans (le_of_eq (one_more v (v * f) a f i e refl)) (mul-le-mul_left a (pow-le-pow_right p (omega arith)))) r

-- a number as long as b and at most b has room for a product where b has
pub has_room : (a b : List ℕ) (f : ℕ) → value_of b * 2 ^ 56 < 256 ^ length b → length a ≡ length b → value_of a ≤ value_of b → f ≤ 2 ^ 56 → value_of a * f < 256 ^ length a
has_room a b f r l h k = subst (λ (n : ℕ). value_of a * f < 256 ^ n) (sym l) (lt_of_le_of_lt (mul-le-mul h k) r)

-- a number within the limit was doubled fewer than 2200 times
pub few-doublings : (v k : ℕ) → 0 < v → v * 2 ^ k < limit → k < 2200
unfolding limit
few-doublings v k p h =
    lt_of_not-le (λ (g : 2200 ≤ k). not-le_of_lt h (le_trans (pow_mono g) (le_trans (le_of_eq (sym (one-mul (2 ^ k)))) (mul-le-mul_right (2 ^ k) p))))

-- and multiplied by more than 1 no more often
pub few-steps : (v f k : ℕ) → 0 < v → 2 ≤ f → v * f ^ k < limit → k < 2200
few-steps v f k p t h = few-doublings v k p (lt_of_le_of_lt (mul-le-mul_left v (pow-le-pow_left t k)) h)

-- ---- by a power of a power

pow-mul : (a m n : ℕ) → a ^ (m * n) ≡ (a ^ m) ^ n
pow-mul a m zero = ap (λ (x : ℕ). a ^ x) (mul-zero m) ∙ pow-zero a ∙ sym (pow-zero (a ^ m))
pow-mul a m (suc n) = ap (λ (x : ℕ). a ^ x) (mul-suc m n) ∙ pow-add a (m * n) m ∙ ap (λ (x : ℕ). x * a ^ m) (pow-mul a m n) ∙ sym (pow-suc (a ^ m) n)

-- i doublings and then r times e of them
more-doublings : (v w x i e r : ℕ) → w ≡ v * 2 ^ i → x ≡ w * (2 ^ e) ^ r → x ≡ v * 2 ^ (i + e * r)
more-doublings v w x i e r p q =
    q
    ∙ ap (λ (z : ℕ). z * (2 ^ e) ^ r) p
    ∙ mul_assoc v (2 ^ i) ((2 ^ e) ^ r)
    ∙ ap (λ (z : ℕ). v * z) (ap (λ (z : ℕ). 2 ^ i * z) (sym (pow-mul 2 e r)) ∙ sym (pow-add 2 i (e * r)))

-- 48 at once, then 6, then one
pub all-climbs : (v x y z a b c : ℕ) → x ≡ v * (2 ^ 48) ^ a → y ≡ x * 64 ^ b → z ≡ y * 2 ^ c → z ≡ v * 2 ^ (48 * a + 6 * b + c)
all-climbs v x y z a b c p q r =
    let e : x ≡ v * 2 ^ (0 + 48 * a) = more-doublings v v x 0 48 a (none_yet v 2) p in
    let f : y ≡ v * 2 ^ (0 + 48 * a + 6 * b) = more-doublings v x y (0 + 48 * a) 6 b e q in
    let s : 0 + 48 * a + 6 * b + 1 * c ≡ 48 * a + 6 * b + c = omega arith in
    more-doublings v y z (0 + 48 * a + 6 * b) 1 c f r ∙ ap (λ (i : ℕ). v * 2 ^ i) s

-- c factors, g at a time and then the rest
pub in-groups : (a f g c m : ℕ) → m ≡ f ^ g → a * m ^ (c / g) * f ^ (c % g) ≡ a * f ^ c
in-groups a f g c m e =
    mul_assoc a (m ^ (c / g)) (f ^ (c % g))
    ∙ ap (λ (z : ℕ). a * z)
    (ap (λ (z : ℕ). z ^ (c / g) * f ^ (c % g)) e
    ∙ ap (λ (z : ℕ). z * f ^ (c % g)) (sym (pow-mul f g (c / g)))
    ∙ sym (pow-add f (g * (c / g)) (c % g))
    ∙ ap (λ (z : ℕ). f ^ z) (div-add-mod c g))

-- what one factor more has room for has room
pub fewer : (a f r : ℕ) → 0 < f → a * f < r → a < r
fewer a f r p h = lt_of_le_of_lt (le-mul_of_pos_right a p) h

-- 64^count, and the rest of 2^1074
pub all-doublings : (a c : ℕ) → c ≤ 179 → a * 64 ^ c * 2 ^ (1074 - 6 * c) ≡ a * 2 ^ 1074
all-doublings a c h =
    mul_assoc a (64 ^ c) (2 ^ (1074 - 6 * c))
    ∙ ap (λ (z : ℕ). a * z)
    (ap (λ (z : ℕ). z * 2 ^ (1074 - 6 * c)) (sym (pow-mul 2 6 c))
    ∙ sym (pow-add 2 (6 * c) (1074 - 6 * c))
    ∙ (let e : 6 * c + (1074 - 6 * c) ≡ 1074 = omega arith in ap (λ (z : ℕ). 2 ^ z) e))

pub between : (a b q : ℕ) → b * q ≤ a → a < b * (q + 1) → q ≡ a / b
between a b q l h = sym (div-eq_of_lt-le b (le_trans (le_of_eq (mul_comm q b)) l) (lt_of_lt_of_le h (le_of_eq (mul_comm b (q + 1)))))
