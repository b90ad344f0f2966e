-- The targets of a line, one after the other.
use mathlib.Core.Path.{◌≡◌, refl, sym, ap, ◌∙◌}
use mathlib.Core.Bool.{Bool}
use mathlib.Core.List.{List, [], ◌∷◌}
use mathlib.Core.Logic.{◌⊎◌, ⊎_elim}
use Prim.Native.Nat.{ℕ, zero, suc, ◌+◌, ◌≤◌}
use native.Mathlib.Omega.{arith}
use denote.Enum.Declared.{tag_of}
use lib.ListN.{length}
use Rattle.circuit.specs.Targets.{target_at, Pair, before, targets_within, targets_from}
use Rattle.circuit.specs.declared.lines.Seen.{Seen}
use Rattle.circuit.specs.declared.lines.Seen.TheVariants.{End, At, Bad}
use Rattle.circuit.specs.declared.lines.Target.{Target}
use Rattle.circuit.proofs.Steps.{target_past, target-onward}
use Rattle.circuit.specs.contracts.lines.Seen.{the_type}

-- what a `let Seen::At(p, q) = seen else` or an `if let` leaves is no target
pub no_target : (s : Seen) → (tag_of the_type s ≡ 0) ⊎ (tag_of the_type s ≡ 2) → (p q : ℕ) → s ≡ At p q → ⊥
no_target s k p q e =
    let t : tag_of the_type s ≡ 1 = ap (tag_of the_type) e in
    ⊎_elim (λ a. omega arith) (λ b. omega arith) k

before-none : (s : Seen) (rest : List Pair) → ((p q : ℕ) → s ≡ At p q → ⊥) → before s rest ≡ []
unfolding before
before-none End rest h = refl
before-none (Bad f) rest h = refl
before-none (At p q) rest h = absurd (h p q refl)

before_same : (s : Seen) (xs ys : List Pair) → ((p q : ℕ) → s ≡ At p q → xs ≡ ys) → before s xs ≡ before s ys
unfolding before
before_same End xs ys h = refl
before_same (Bad f) xs ys h = refl
before_same (At p q) xs ys h = ap (λ (rest : List Pair). record { p = p; q = q } ∷ rest) (h p q refl)

module _ (pairs : Bool) (text : List ℕ) where
  abbrev within : ℕ → ℕ → List Pair
  within n at = targets_within n pairs text at

  none-past : (n at : ℕ) → length text ≤ at → within n at ≡ []
  unfolding targets_within before
  none-past zero at h = refl
  none-past (suc n) at h = ap (λ (t : Target). before t.seen (within n t.to)) (sym (target_past text at h pairs))

  -- as many as there are bytes are enough
  enough : (n m at : ℕ) → length text ≤ at + n → length text ≤ at + m → within n at ≡ within m at
  unfolding targets_within
  enough zero m at h k = sym (none-past m at (omega arith))
  enough (suc n) zero at h k = none-past (suc n) at (omega arith)
  enough (suc n) (suc m) at h k =
      let t = target_at pairs text at in
      before_same t.seen (within n t.to) (within m t.to)
      (λ p q e.
      let o = target-onward text pairs at in
      let s = o.qubits p q e in
      enough n m t.to (omega (arith, o.onward)) (omega (arith, o.onward)))

  module _ (at : ℕ) (t : Target) (e : t ≡ target_at pairs text at) where
    none_here : (n : ℕ) → ((p q : ℕ) → t.seen ≡ At p q → ⊥) → within n at ≡ []
    unfolding targets_within
    none_here zero h = refl
    none_here (suc n) h = ap (λ (x : Target). before x.seen (within n x.to)) (sym e) ∙ before-none t.seen (within n t.to) h

    one-here : (n p q : ℕ) → length text ≤ at + n → t.seen ≡ At p q → within n at ≡ record { p = p; q = q } ∷ within (length text) t.to
    unfolding targets_within before
    one-here zero p q h s =
        let o = target-onward text pairs at in
        let k = o.qubits p q (ap (λ (x : Target). x.seen) (sym e) ∙ s) in
        absurd (omega (arith, o.onward))
    one-here (suc n) p q h s =
        let o = target-onward text pairs at in
        let k = o.qubits p q (ap (λ (x : Target). x.seen) (sym e) ∙ s) in
        let f : t.to ≡ (target_at pairs text at).to = ap (λ (x : Target). x.to) e in
        ap (λ (x : Target). before x.seen (within n x.to)) (sym e)
        ∙ ap (λ (x : Seen). before x (within n t.to)) s
        ∙ ap (λ (rest : List Pair). record { p = p; q = q } ∷ rest) (enough n (length text) t.to (omega (arith, o.onward)) (omega arith))

    -- no target is seen
    pub targets-end : ((p q : ℕ) → t.seen ≡ At p q → ⊥) → targets_from pairs text at ≡ []
    unfolding targets_from
    targets-end h = none_here (length text) h

    -- a target, and then those from where it ends on
    pub targets_next : (p q : ℕ) → t.seen ≡ At p q → targets_from pairs text at ≡ record { p = p; q = q } ∷ targets_from pairs text t.to
    unfolding targets_from
    targets_next p q s = one-here (length text) p q (omega arith) s
