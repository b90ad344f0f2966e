-- The answer of a call on a copy, and one law for each turn of the search for a cutoff. Assumes nothing.
use mathlib.Core.Path.{◌≡◌, sym, ap, ap₂, ◌∙◌}
use mathlib.Core.Bool.{true, false}
use mathlib.Core.List.{List}
use Prim.Native.Nat.{ℕ, suc, ◌-◌, ◌≤◌, ◌<◌}
use native.Mathlib.Omega.{arith}
use lib.Ieee.{Float}
use borrow.Author.Tests.{eq-eqb, ne_eqb}
use Rattle.model.specs.Floats.{float, one_bits, plus, above}
use Rattle.model.specs.Calls.{Call, Lent, Left, held, gave, step}
use Rattle.model.specs.declared.Header.{Header}
use Rattle.model.specs.declared.Answer.{Answer}
use Rattle.calls.specs.Outgrown.{with_cutoff, answer_on}
use Rattle.calls.specs.Outgrown.{fitting}
use Rattle.std.specs.Prelude.{Some, None}

-- ---- the answer of the call

-- as it was made, by what was lent to it
pub answer-made : (c : Call) (h : Header) {a : Answer} {left w v : List ℕ} → gave a left ≡ step c (held h w) → w ≡ v → a ≡ answer_on c h v
answer-made c h e p = ap (λ (l : Left). l.answer) e ∙ ap (λ (u : List ℕ). answer_on c h u) p

pub answer-as : (c : Call) {a : Answer} {h k : Header} {w v : List ℕ} → a ≡ answer_on c h w → h ≡ k → w ≡ v → a ≡ answer_on c k v
answer-as c e p q = e ∙ ap₂ (λ (g : Header) (u : List ℕ). answer_on c g u) p q

-- ---- cutoffs

module _ (c : Call) (x : Lent) (left : ℕ) (cutoff : Float) where
  pub none_left : left ≤ 0 → None ≡ fitting c x left cutoff
  unfolding fitting
  none_left h = let z : left ≡ 0 = omega arith in rw z

  module _ (h : 0 < left) where
    some_left : left ≡ suc (left - 1)
    some_left = omega arith

    pub above-one : above cutoff (float one_bits) ≡ true → None ≡ fitting c x left cutoff
    unfolding fitting
    above-one o = rw (some_left, o)

    module _ (o : above cutoff (float one_bits) ≡ false) {a : Answer} (e : a ≡ answer_on c (with_cutoff cutoff x.header) x.words) where
      pub fits : a.number ≡ 0 → Some cutoff ≡ fitting c x left cutoff
      unfolding fitting
      fits z = rw (some_left, o, ← e, eq-eqb a.number 0 z)

      pub fits_not : (a.number ≡ 0 → ⊥) → fitting c x (left - 1) (plus cutoff cutoff) ≡ fitting c x left cutoff
      unfolding fitting
      fits_not z =
          let next : fitting c x (left - 1) (plus cutoff cutoff) ≡ fitting c x (suc (left - 1)) cutoff =
          rw (o, ← e, ne_eqb a.number 0 z) in
          next ∙ ap (λ (n : ℕ). fitting c x n cutoff) (sym some_left)
