-- A word compared with a name, byte by byte.
use mathlib.Core.Path.{◌≡◌, refl, sym, ap, ap₂, ◌∙◌}
use mathlib.Core.Bool.{Bool, true, false, ◌&&◌}
use mathlib.Core.List.{List, [], ◌∷◌}
use Prim.Native.Nat.{ℕ, suc, ◌+◌, ◌<◌, ◌≤◌}
use native.Mathlib.Numerals.{add-one}
use lib.Dec.{eqb}
use lib.ListN.{length, drop, get_or, drop_of_length-le}
use lib.Seq.{drop-cons}
use borrow.Author.Tests.{eq-eqb, ne_eqb}
use Rattle.std.proofs.Math.Bool.{and-false}
use Rattle.circuit.specs.Names.{capital, spells}

-- a word of another length is not the name
pub other_length : (w n : List ℕ) → (length w ≡ length n → ⊥) → spells w n ≡ false
unfolding spells
other_length [] [] h = absurd (h refl)
other_length [] (y ∷ ys) h = refl
other_length (x ∷ xs) [] h = refl
other_length (x ∷ xs) (y ∷ ys) h =
    ap (λ (b : Bool). eqb (capital x) y && b) (other_length xs ys (λ e. h (ap suc e))) ∙ and-false (eqb (capital x) y)

-- nothing is left to compare
pub all_same : (w n : List ℕ) (i : ℕ) → length w ≤ i → length n ≤ i → spells (drop i w) (drop i n) ≡ true
unfolding spells
all_same w n i hw hn = ap₂ spells (drop_of_length-le w {i = i} hw) (drop_of_length-le n {i = i} hn)

-- byte i, and those after it
module _ (w n : List ℕ) (i : ℕ) (hw : i < length w) (hn : i < length n) where
  first : spells (drop i w) (drop i n) ≡ (eqb (capital (get_or w i 0)) (get_or n i 0) && spells (drop (i + 1) w) (drop (i + 1) n))
  unfolding spells
  first =
      ap₂ spells
      (drop-cons w i 0 hw ∙ ap (λ (k : ℕ). get_or w i 0 ∷ drop k w) (sym (add-one i)))
      (drop-cons n i 0 hn ∙ ap (λ (k : ℕ). get_or n i 0 ∷ drop k n) (sym (add-one i)))

  pub same_byte : (x : ℕ) → x ≡ capital (get_or w i 0) → x ≡ get_or n i 0 → spells (drop (i + 1) w) (drop (i + 1) n) ≡ spells (drop i w) (drop i n)
  same_byte x p e = sym (first ∙ ap (λ (b : Bool). b && spells (drop (i + 1) w) (drop (i + 1) n)) (eq-eqb (capital (get_or w i 0)) (get_or n i 0) (sym p ∙ e)))

  pub other_byte : (x : ℕ) → x ≡ capital (get_or w i 0) → (x ≡ get_or n i 0 → ⊥) → false ≡ spells (drop i w) (drop i n)
  other_byte x p h = sym (first ∙ ap (λ (b : Bool). b && spells (drop (i + 1) w) (drop (i + 1) n)) (ne_eqb (capital (get_or w i 0)) (get_or n i 0) (λ e. h (p ∙ e))))
