-- An array filled place by place with what a function makes of another: with the first i places filled, one more makes it i + 1. Assumes nothing.
use mathlib.Core.Path.{◌≡◌, sym, ap, ◌∙◌}
use mathlib.Core.List.{List, [], ◌∷◌, ◌++◌, map, map-append}
use Prim.Native.Nat.{ℕ, ◌+◌, ◌<◌, ◌≤◌}
use native.Mathlib.Numerals.{add-one}
use lib.ListN.{length, get_or, take, set}
use lib.Seq.{take-suc, take-suc-set, take_all}

module _ {X Y : Type 0} (f : X → Y) (from : List X) (to : List Y) (i : ℕ) where
  pub mapped_next : (d : X) → i < length to → i < length from → take i to ≡ map f (take i from) → take (i + 1) (set to i (f (get_or from i d))) ≡ map f (take (i + 1) from)
  mapped_next d p q e =
      let v = f (get_or from i d) in
      ap (λ (k : ℕ). take k (set to i v)) (add-one i)
      ∙ take-suc-set to i v p
      ∙ ap (λ (l : List Y). l ++ (v ∷ [])) e
      ∙ sym (ap (λ (k : ℕ). map f (take k from)) (add-one i) ∙ ap (map f) (take-suc from i d q) ∙ map-append f (take i from) (get_or from i d ∷ []))

  pub mapped_end : length to ≤ i → length from ≤ i → take i to ≡ map f (take i from) → to ≡ map f from
  mapped_end p q e = sym (take_all i to p) ∙ e ∙ ap (map f) (take_all i from q)
