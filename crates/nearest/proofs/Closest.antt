-- The nearest whole number to a quotient, by comparisons. Assumes nothing.
use mathlib.Core.Path.{◌≡◌, refl, sym, ap, ◌∙◌, subst}
use mathlib.Core.Bool.{not}
use Prim.Native.Nat.{ℕ, ◌+◌, ◌*◌, ◌/◌, ◌%◌, ◌≤◌, ◌<◌, compare, Ordering}
use native.Mathlib.Nat.{mul_comm, mul-add, mul-one, mul_left_comm, div-add-mod'}
use native.Mathlib.Numerals.{add-one}
use native.Mathlib.Omega.{arith}
use lib.Arith.{lt_of_le-ne}
use lib.Dec.{T, is_le, compare_is_eq, eqb, leb→le, nleb→lt, eqb→eq, eqb_refl}
use lib.Ieee.{nearest}
use lib.Ieee.Nearest.{closest}

-- ---- what a comparison says

abbrev Says : Ordering → ℕ → ℕ → Type 0
Says Ordering.lt a b = a < b
Says Ordering.eq a b = a ≡ b
Says Ordering.gt a b = b < a

says : (a b : ℕ) → Says (compare a b) a b
says a b = go (compare a b) (leb→le a b) (nleb→lt a b) (eqb→eq a b) (λ (e : a ≡ b). subst (λ (x : ℕ). T (eqb a x)) e (eqb_refl a))
  where
    go : (o : Ordering) → (T (is_le o) → a ≤ b) → (T (not (is_le o)) → b < a) → (T (compare_is_eq o) → a ≡ b) → (a ≡ b → T (compare_is_eq o)) → Says o a b
    go Ordering.lt h k e n = lt_of_le-ne (h tt) n
    go Ordering.eq h k e n = e tt
    go Ordering.gt h k e n = k tt

-- ---- the number that it picks

module _ (q a b : ℕ) where
  lower : (o : Ordering) → Says o a b → a < b → nearest q o ≡ q
  lower Ordering.lt s h = refl
  lower Ordering.eq s h = absurd (omega arith)
  lower Ordering.gt s h = absurd (omega arith)

  upper : (o : Ordering) → Says o a b → b < a → nearest q o ≡ q + 1
  upper Ordering.lt s h = absurd (omega arith)
  upper Ordering.eq s h = absurd (omega arith)
  upper Ordering.gt s h = sym (add-one q)

  even : (o : Ordering) → Says o a b → a ≡ b → nearest q o ≡ q + q % 2
  even Ordering.lt s h = absurd (omega arith)
  even Ordering.eq s h = refl
  even Ordering.gt s h = absurd (omega arith)

  pub picks-lower : a < b → q ≡ nearest q (compare a b)
  picks-lower h = sym (lower (compare a b) (says a b) h)

  pub picks-upper : b < a → q + 1 ≡ nearest q (compare a b)
  picks-upper h = sym (upper (compare a b) (says a b) h)

  pub picks-even : b ≤ a → a ≤ b → q + q % 2 ≡ nearest q (compare a b)
  picks-even h k = sym (even (compare a b) (says a b) (omega arith))

-- ---- a quotient's remainder against the half of the divisor: the dividend against the middle

middle : (a b : ℕ) → b * (2 * (a / b) + 1) ≡ (a / b * b) * 2 + b
middle a b = mul-add b (2 * (a / b)) 1 ∙ (omega (arith, mul-one b, mul_left_comm b 2 (a / b), mul_comm b (a / b)))

pub closest-by-middle : (a b q : ℕ) → q ≡ a / b → nearest q (compare (a * 2) (b * (2 * q + 1))) ≡ closest a b
closest-by-middle a b q e = ap (λ (k : ℕ). nearest k (compare (a * 2) (b * (2 * k + 1)))) e ∙ go (compare (a % b * 2) b) (says (a % b * 2) b)
  where
    whole : a / b * b + a % b ≡ a
    whole = div-add-mod' a b

    go : (o : Ordering) → Says o (a % b * 2) b → nearest (a / b) (compare (a * 2) (b * (2 * (a / b) + 1))) ≡ nearest (a / b) o
    go Ordering.lt s = sym (picks-lower (a / b) (a * 2) (b * (2 * (a / b) + 1)) (omega (arith, whole, middle a b)))
    go Ordering.eq s = sym (picks-even (a / b) (a * 2) (b * (2 * (a / b) + 1)) (omega (arith, whole, middle a b)) (omega (arith, whole, middle a b)))
    go Ordering.gt s = sym (picks-upper (a / b) (a * 2) (b * (2 * (a / b) + 1)) (omega (arith, whole, middle a b))) ∙ add-one (a / b)
