-- A field is read as the number of which it is the field, and nothing else is read as a number. Assumes nothing.
use mathlib.Core.Path.{◌≡◌, refl, sym, ap, ap₂, ◌∙◌}
use mathlib.Core.Bool.{Bool, true, false, true≢false, cond, ◌&&◌, and_assoc}
use mathlib.Core.List.{List, [], ◌∷◌, ◌++◌}
use mathlib.Core.Option.{none, some}
use Prim.Native.Nat.{ℕ, suc, ◌/◌, ◌%◌, ◌^◌, ◌<◌, ◌≤◌}
use native.Mathlib.Omega.{arith}
use lib.Dec.{eqb, ltb}
use lib.ListN.{length}
use borrow.Author.Tests.{eq-eqb, eqb-true, lt-ltb, le-ltb, ltb-true}
use Rattle.model.specs.Sheet.{blank, digit, columns, leading, field, same_words, value_from, field_value}
use Rattle.model.proofs.Lists.{and_both, and-true, and-false}
use Rattle.model.proofs.Sheet.{justified-read}
use Rattle.fields.specs.Read.{column}
use Rattle.std.specs.Prelude as code
use Rattle.std.specs.Option as option
use Rattle.std.specs.Prelude.{None, Some}
use Rattle.std.specs.Option.{MatchOption}
use Rattle.fields.specs.Read.{as_option}

-- ---- words compared

-- a list is the same as itself
pub same_refl : (l : List ℕ) → same_words l l ≡ true
unfolding same_words
same_refl [] = refl
same_refl (x ∷ xs) = rw (eq-eqb x x refl) (same_refl xs)

-- lists that are found the same are equal
pub same-eq : (a b : List ℕ) → same_words a b ≡ true → a ≡ b
unfolding same_words
same-eq [] [] e = refl
same-eq [] (y ∷ ys) e = absurd (true≢false (sym e))
same-eq (x ∷ xs) [] e = absurd (true≢false (sym e))
same-eq (x ∷ xs) (y ∷ ys) e =
    let p = and_both (eqb x y) (same_words xs ys) e in
    ap₂ (λ a b. a ∷ b) (eqb-true x y p.0) (same-eq xs ys p.1)

-- .. compared from the last word on
pub same-last : (a b : List ℕ) (x y : ℕ) → length a ≡ length b → same_words (a ++ x ∷ []) (b ++ y ∷ []) ≡ (same_words a b && eqb x y)
unfolding same_words
same-last [] [] x y h = and-true (eqb x y)
same-last [] (v ∷ b) x y h = absurd (omega arith)
same-last (u ∷ a) [] x y h = absurd (omega arith)
same-last (u ∷ a) (v ∷ b) x y h =
    ap (λ (t : Bool). eqb u v && t) (same-last a b x y (omega arith)) ∙ sym (and_assoc (eqb u v) (same_words a b) (eqb x y))

-- ---- the columns of a number

-- the last column, and those before it
pub leading-last : (c v : ℕ) → leading (suc c) v ≡ leading c (v / 10) ++ column v ∷ []
unfolding leading column
leading-last c v = go (eqb v 0) refl
  where
    go : (t : Bool) → eqb v 0 ≡ t → cond t (leading c 0 ++ blank ∷ []) (leading c (v / 10) ++ digit (v % 10) ∷ []) ≡ leading c (v / 10) ++ cond t blank (digit (v % 10)) ∷ []
    go true e =
        let z : v ≡ 0 = eqb-true v 0 e in
        ap (λ (w : ℕ). leading c w ++ blank ∷ []) (sym (ap (λ (w : ℕ). w / 10) z))
    go false e = refl

-- ---- the number that they stand for

-- 21 columns suffice for a number below 2^64
value-field : (v : ℕ) → v < 2 ^ 64 → value_from 0 (field v) ≡ v
unfolding field
value-field v h = justified-read columns v (omega arith) (omega arith)

-- ---- a field, read

-- the field of a number below 2^64 is read as that number
pub field-read : (v : ℕ) → v < 2 ^ 64 → field_value (field v) ≡ some v
unfolding field_value
field-read v h = rw (value-field v h, same_refl (field v), lt-ltb v (2 ^ 64) h)

-- what is read as a number is its field
pub read-field : (bs : List ℕ) (v : ℕ) → field_value bs ≡ some v → (bs ≡ field v) × (v < 2 ^ 64)
unfolding field_value
read-field bs v e = go (value_from 0 bs) (same_words bs (field (value_from 0 bs))) (ltb (value_from 0 bs) (2 ^ 64)) refl refl e
  where
    go : (w : ℕ) (s t : Bool) → same_words bs (field w) ≡ s → ltb w (2 ^ 64) ≡ t → cond (s && t) (some w) none ≡ some v → (bs ≡ field v) × (v < 2 ^ 64)
    go w true true p q r =
        let z : w ≡ v = cc in
        (same-eq bs (field w) p ∙ ap field z, rw z at (ltb-true w (2 ^ 64) q))
    go w true false p q r = let z : ◌≡◌ {A = ℕ} 0 1 = cc in absurd (omega arith)
    go w false t p q r = let z : ◌≡◌ {A = ℕ} 0 1 = cc in absurd (omega arith)

-- the answers of `read_field`: the digits stand for a number below 2^64, and then the columns are its field or not; or for a larger one
pub sound-read : (bs : List ℕ) (s : Bool) (v : ℕ) → v < 2 ^ 64 → v ≡ value_from 0 bs → s ≡ same_words bs (field v) → cond s (some v) none ≡ field_value bs
unfolding field_value
sound-read bs s v h e p = rw (← e, lt-ltb v (2 ^ 64) h, and-true (same_words bs (field v)), p)

pub large-read : (bs : List ℕ) → 2 ^ 64 ≤ value_from 0 bs → none ≡ field_value bs
unfolding field_value
large-read bs h = rw (le-ltb (value_from 0 bs) (2 ^ 64) h, and-false (same_words bs (field (value_from 0 bs))))

-- the value that was read
pub value_read : (o : code.Option ℕ) (v : ℕ) → as_option o ≡ some v → option.unwrap_or o 0 ≡ v
value_read (Some w) v e = cc
value_read None v e = let z : ◌≡◌ {A = ℕ} 0 1 = cc in absurd (omega arith)

-- .. by its digits alone
pub digits-read : (bs : List ℕ) (o : code.Option ℕ) (v : ℕ) → field_value bs ≡ some v → MatchOption o (2 ^ 64 ≤ value_from 0 bs) (λ w. w ≡ value_from 0 bs) → option.unwrap_or o 0 ≡ v
digits-read bs o v e =
    let f = read-field bs v e in
    let n : value_from 0 bs ≡ v = ap (value_from 0) f.0 ∙ value-field v f.1 in
    at o n
  where
    at : (o : code.Option ℕ) → value_from 0 bs ≡ v → MatchOption o (2 ^ 64 ≤ value_from 0 bs) (λ w. w ≡ value_from 0 bs) → option.unwrap_or o 0 ≡ v
    at (Some w) n h = h ∙ n
    at None n h = absurd (omega (arith, n, (read-field bs v e).1))
