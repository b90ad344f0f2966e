-- The loops over a field's bytes: what one byte does to what is still to be read or compared. Assumes nothing.
use mathlib.Core.Path.{◌≡◌, sym, ap, ap₂, ◌∙◌}
use mathlib.Core.Bool.{Bool, true, false, cond, ◌&&◌}
use mathlib.Core.List.{List, [], ◌∷◌, ◌++◌}
use Prim.Native.Nat.{ℕ, suc, ◌+◌, ◌*◌, ◌-◌, ◌/◌, ◌%◌, ◌<◌, ◌≤◌}
use native.Mathlib.Numerals.{add-one}
use native.Mathlib.Omega.{arith}
use lib.Dec.{eqb}
use lib.ListN.{length, take, drop, get_or, drop_of_length-le}
use lib.Seq.{drop-cons, take-suc, take_all, length-take-le}
use borrow.Author.Tests.{eq-eqb, ne_eqb}
use Rattle.model.specs.Sheet.{blank, digit, columns, leading, field, same_words, value_from}
use Rattle.model.proofs.Lists.{and-true, and-false}
use Rattle.fields.specs.Read.{column}
use Rattle.model.proofs.Sheet.{length-leading}
use Rattle.fields.proofs.Values.{same-last, leading-last}

-- ---- the number, from the first byte on

module _ (t : List ℕ) (i v : ℕ) (h : i < length t) where
  -- byte i, and those after it
  first : value_from v (drop i t) ≡ value_from (cond (eqb (get_or t i 0) blank) v (10 * v + (get_or t i 0 - digit 0))) (drop (i + 1) t)
  unfolding value_from
  first = ap (value_from v) (drop-cons t i 0 h ∙ ap (λ (k : ℕ). get_or t i 0 ∷ drop k t) (sym (add-one i)))

  -- a blank is passed over
  pub blank-passed : get_or t i 0 ≡ blank → value_from v (drop (i + 1) t) ≡ value_from v (drop i t)
  blank-passed e =
      sym (first ∙ ap (λ (b : Bool). value_from (cond b v (10 * v + (get_or t i 0 - digit 0))) (drop (i + 1) t)) (eq-eqb (get_or t i 0) blank e))

  -- any other byte is a digit
  pub digit-passed : (d : ℕ) → (get_or t i 0 ≡ blank → ⊥) → d ≡ get_or t i 0 - digit 0 → value_from (10 * v + d) (drop (i + 1) t) ≡ value_from v (drop i t)
  digit-passed d n e =
      ap (λ (x : ℕ). value_from (10 * v + x) (drop (i + 1) t)) e
      ∙ sym (first ∙ ap (λ (b : Bool). value_from (cond b v (10 * v + (get_or t i 0 - digit 0))) (drop (i + 1) t)) (ne_eqb (get_or t i 0) blank n))

-- the number only grows
pub value-least : (v : ℕ) (bs : List ℕ) → v ≤ value_from v bs
unfolding value_from
value-least v [] = omega arith
value-least v (x ∷ bs) = grows (eqb x blank) (value-least (cond (eqb x blank) v (10 * v + (x - digit 0))) bs)
  where
    grows : (b : Bool) → cond b v (10 * v + (x - digit 0)) ≤ value_from (cond b v (10 * v + (x - digit 0))) bs → v ≤ value_from (cond b v (10 * v + (x - digit 0))) bs
    grows true k = k
    grows false k = omega arith

-- nothing is left to read
pub value-end : (t : List ℕ) (i v : ℕ) → length t ≤ i → value_from v (drop i t) ≡ v
unfolding value_from
value-end t i v h = ap (value_from v) (drop_of_length-le t {i = i} h)

-- ---- the columns, from the last one on

-- the last one decides, or those before it do
right : (w s : Bool) (x y : ℕ) → w ≡ (s && eqb x y) → x ≡ y → s ≡ w
right w s x y e h = sym (e ∙ ap (λ (b : Bool). s && b) (eq-eqb x y h) ∙ and-true s)

wrong : (w s : Bool) (x y : ℕ) → w ≡ (s && eqb x y) → (x ≡ y → ⊥) → false ≡ w
wrong w s x y e h = sym (e ∙ ap (λ (b : Bool). s && b) (ne_eqb x y h) ∙ and-false s)

-- column k of a number's i columns, and those before it
module _ (t : List ℕ) (i k v x : ℕ) (e : i ≡ k + 1) (h : i ≤ length t) (p : x ≡ column v) where
  -- .. compared
  columns-are : same_words (take i t) (leading i v) ≡ (same_words (take k t) (leading k (v / 10)) && eqb (get_or t k 0) x)
  columns-are =
      let s : i ≡ suc k = e ∙ add-one k in
      ap₂ same_words (ap (λ (n : ℕ). take n t) s ∙ take-suc t k 0 (omega arith)) (ap (λ (n : ℕ). leading n v) s ∙ leading-last k v)
      ∙ same-last (take k t) (leading k (v / 10)) (get_or t k 0) (column v) (length-take-le k t (omega arith) ∙ sym (length-leading k (v / 10)))
      ∙ ap (λ (y : ℕ). same_words (take k t) (leading k (v / 10)) && eqb (get_or t k 0) y) (sym p)

  -- it is as it should be: those before it decide
  pub column-right : get_or t k 0 ≡ x → same_words (take k t) (leading k (v / 10)) ≡ same_words (take i t) (leading i v)
  column-right = right (same_words (take i t) (leading i v)) (same_words (take k t) (leading k (v / 10))) (get_or t k 0) x columns-are

  -- it is not
  pub column-wrong : (get_or t k 0 ≡ x → ⊥) → false ≡ same_words (take i t) (leading i v)
  column-wrong = wrong (same_words (take i t) (leading i v)) (same_words (take k t) (leading k (v / 10))) (get_or t k 0) x columns-are

-- the last column of a field, and those before it
module _ (t : List ℕ) (v : ℕ) (e : length t ≡ columns) where
  -- .. compared
  field_is : same_words t (field v) ≡ (same_words (take 20 t) (leading 20 (v / 10)) && eqb (get_or t 20 0) (digit (v % 10)))
  unfolding field
  field_is =
      ap (λ (l : List ℕ). same_words l (leading 20 (v / 10) ++ digit (v % 10) ∷ [])) (sym (take_all 21 t (omega arith)) ∙ take-suc t 20 0 (omega arith))
      ∙ same-last (take 20 t) (leading 20 (v / 10)) (get_or t 20 0) (digit (v % 10)) (length-take-le 20 t (omega arith) ∙ sym (length-leading 20 (v / 10)))

  -- it is as it should be: those before it decide
  pub last-right : get_or t 20 0 ≡ digit (v % 10) → same_words (take 20 t) (leading 20 (v / 10)) ≡ same_words t (field v)
  last-right = right (same_words t (field v)) (same_words (take 20 t) (leading 20 (v / 10))) (get_or t 20 0) (digit (v % 10)) field_is

  -- it is not
  pub last-wrong : (get_or t 20 0 ≡ digit (v % 10) → ⊥) → false ≡ same_words t (field v)
  last-wrong = wrong (same_words t (field v)) (same_words (take 20 t) (leading 20 (v / 10))) (get_or t 20 0) (digit (v % 10)) field_is
