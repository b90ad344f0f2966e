-- A turn of the loop over a trial's steps: what was called, and the steps that are left. Assumes nothing.
use Prim.Native.Nat.{ℕ, suc, ◌+◌, ◌-◌, ◌<◌, ◌≤◌}
use native.Mathlib.Omega.{arith}
use mathlib.Core.Path.{◌≡◌, sym, ap, ap₂, ◌∙◌}
use mathlib.Core.Bool.{Bool}
use mathlib.Core.List.{List, [], ◌∷◌, ◌++◌}
use lib.ListN.{length, drop, get_or}
use lib.Ieee.{nan}
use Rattle.model.specs.Channels.{one}
use Rattle.model.specs.Calls.{Call, noise, Lent, held, Left, step}
use Rattle.model.specs.Known.{Stepped}
use Rattle.model.specs.Demand3.{next, after_calls}
use Rattle.model.specs.Trials.{step_calls, accepted_of, place_of, places_of, repeated}
use Rattle.model.specs.declared.Answer.{Answer}
use Rattle.model.specs.declared.Channel.{Channel}
use Rattle.model.specs.declared.Channel.TheVariants.{Pauli}
use Rattle.model.proofs.Trials.{steps_next, steps-left, trial-goes-on, places-go-on, trial-ends, places-end}

-- the steps from i on
abbrev pub rest : (count : ℕ) → List Channel → List ℕ → ℕ → List Call
rest count cs qs i = step_calls (count - i) (drop i cs) (drop i qs)

-- what step i calls
abbrev pub called : List Channel → List ℕ → ℕ → Call
called cs qs i = noise (one (get_or cs i (Pauli nan nan nan)) (get_or qs i 0))

module _ (count i : ℕ) (cs : List Channel) (qs : List ℕ) (h : i < count) (f : count ≤ length cs) (g : count ≤ length qs)
    (k : Bool) (x : Lent) (a : Answer) (w : List ℕ) (s : Stepped (called cs qs i) k x a w) where
  abbrev y : Lent
  y = held a.header w

  here : rest count cs qs i ≡ called cs qs i ∷ rest count cs qs (i + 1)
  here = steps_next count i cs qs (Pauli nan nan nan) 0 h (omega (arith, f, h)) (omega (arith, g, h))

  number_is : (step (called cs qs i) x).answer.number ≡ a.number
  number_is = sym (ap (λ (l : Left). l.answer.number) s.is)

  place_is : place_of (step (called cs qs i) x) ≡ a.number ∷ a.header.count ∷ []
  place_is = sym (ap place_of s.is)

  left_is : next (step (called cs qs i) x) ≡ y
  left_is = sym (ap next s.is)

  -- it was accepted
  pub turn_on : a.number ≡ 0 → after_calls (accepted_of (rest count cs qs (i + 1)) y) y ≡ after_calls (accepted_of (rest count cs qs i) x) x
  turn_on z =
      sym
      (ap (λ (l : List Call). after_calls (accepted_of l x) x) here
      ∙ trial-goes-on (called cs qs i) (rest count cs qs (i + 1)) x (number_is ∙ z)
      ∙ ap (λ (y : Lent). after_calls (accepted_of (rest count cs qs (i + 1)) y) y) left_is)

  pub shown-on : a.number ≡ 0 → (0 ∷ a.header.count ∷ []) ++ places_of (rest count cs qs (i + 1)) y ≡ places_of (rest count cs qs i) x
  shown-on z =
      sym
      (ap (λ (l : List Call). places_of l x) here
      ∙ places-go-on (called cs qs i) (rest count cs qs (i + 1)) x (number_is ∙ z)
      ∙ ap₂ (λ (p : List ℕ) (y : Lent). p ++ places_of (rest count cs qs (i + 1)) y) (place_is ∙ ap (λ (n : ℕ). n ∷ a.header.count ∷ []) z) left_is)

  -- .. refused
  module _ (n : a.number ≡ 0 → ⊥) where
    refused : (step (called cs qs i) x).answer.number ≡ 0 → ⊥
    refused e = n (sym number_is ∙ e)

    pub turn-ends : y ≡ after_calls (accepted_of (rest count cs qs i) x) x
    turn-ends =
        sym
        (ap (λ (l : List Call). after_calls (accepted_of l x) x) here
        ∙ trial-ends (called cs qs i) (rest count cs qs (i + 1)) x refused
        ∙ left_is)

    pub shown-ends : repeated (count - i) (a.number ∷ a.header.count ∷ []) ≡ places_of (rest count cs qs i) x
    shown-ends =
        sym
        (ap (λ (l : List Call). places_of l x) here
        ∙ places-end (called cs qs i) (rest count cs qs (i + 1)) x refused
        ∙ ap₂ repeated (ap suc (steps-left count (i + 1) cs qs f g) ∙ one_less count i h) place_is)
      where
        one_less : (count i : ℕ) → i < count → suc (count - (i + 1)) ≡ count - i
        one_less count i h = omega arith

-- none is left
pub rest-none : (count i : ℕ) (cs : List Channel) (qs : List ℕ) → count ≤ i → rest count cs qs i ≡ []
unfolding step_calls
rest-none count i cs qs h = ap (λ (k : ℕ). step_calls k (drop i cs) (drop i qs)) (none count i h)
  where
    none : (count i : ℕ) → count ≤ i → count - i ≡ 0
    none count i h = omega arith
