-- Laws of a pass, whatever it makes of its lines. Assumes nothing.
use Prim.Native.Nat.{ℕ}
use mathlib.Core.Path.{◌≡◌, refl, sym, ap, subst, ◌∙◌}
use mathlib.Core.Bool.{true, false, true≢false}
use mathlib.Core.List.{List}
use native.Mathlib.Omega.{arith}
use denote.Enum.Declared.{tag_of}
use Rattle.input.specs.declared.Found.{Found}
use Rattle.circuit.specs.declared.lines.Item.{Item}
use Rattle.passes.specs.Going.{goes}
use Rattle.passes.specs.Turns.{Stands, nothing, opened, too_deep, closed, no_repeat, bad, Unread, done, too_long, failed, cut, Turn, no_line, Next, Passed, begun, then}
use Rattle.passes.specs.declared.Outcome.{Outcome}
use Rattle.passes.specs.contracts.Outcome.{the_type}

-- ---- whether it goes on

-- an outcome that ends a pass is none with which it goes on
pub not_going : (o : Outcome) → goes o ≡ false → o ≡ Outcome.Going → ⊥
unfolding goes
not_going o f e = true≢false (sym (ap goes e) ∙ f)

-- .. and the other way round
pub going : (o : Outcome) → goes o ≡ true → o ≡ Outcome.Going
unfolding goes
going Outcome.Going e = refl
going Outcome.Done e = absurd (true≢false (sym e))
going (Outcome.Bad f) e = absurd (true≢false (sym e))
going Outcome.Rates e = absurd (true≢false (sym e))
going Outcome.TooLong e = absurd (true≢false (sym e))
going Outcome.Failed e = absurd (true≢false (sym e))
going Outcome.Cut e = absurd (true≢false (sym e))
going Outcome.TooDeep e = absurd (true≢false (sym e))
going Outcome.NoRepeat e = absurd (true≢false (sym e))
going (Outcome.Unclosed at) e = absurd (true≢false (sym e))
going (Outcome.Refused number p q) e = absurd (true≢false (sym e))
going (Outcome.TooMuchLost lost) e = absurd (true≢false (sym e))
going Outcome.Unwritten e = absurd (true≢false (sym e))
going Outcome.NoStep e = absurd (true≢false (sym e))
going Outcome.TooManySteps e = absurd (true≢false (sym e))

-- ---- the circuit's end is read in no line

-- an outcome of another variant than the circuit's end
pub other-outcome : (o : Outcome) → (tag_of the_type o ≡ 1 → ⊥) → o ≡ Outcome.Done → ⊥
other-outcome o h e = h (ap (tag_of the_type) e)

pub stands-not-end : {i : Item} {o : Outcome} → Stands i o → o ≡ Outcome.Done → ⊥
stands-not-end nothing = other-outcome _ (λ z. omega (arith, z))
stands-not-end opened = other-outcome _ (λ z. omega (arith, z))
stands-not-end too_deep = other-outcome _ (λ z. omega (arith, z))
stands-not-end closed = other-outcome _ (λ z. omega (arith, z))
stands-not-end no_repeat = other-outcome _ (λ z. omega (arith, z))
stands-not-end bad = other-outcome _ (λ z. omega (arith, z))

-- and where none was read the pass does not go on
pub unread-ends : {found : Found} {o : Outcome} → Unread found o → o ≡ Outcome.Going → ⊥
unfolding goes
unread-ends done g = not_going _ refl g
unread-ends too_long g = not_going _ refl g
unread-ends failed g = not_going _ refl g
unread-ends cut g = not_going _ refl g

-- ---- lines, one after the other, by what each makes of a state

module _ {X : Type 0} (L : List ℕ → X → X → Outcome → Type 0) where
  -- where no line was found
  pub nothing_read : {text : List ℕ} (x y : X) {f g : Found} {o p : Outcome} → y ≡ x → g ≡ f → p ≡ o → Unread f o → Turn L g text x y p
  nothing_read {text} x y {f = f} {g = g} {o = o} {p = p} same e h u =
      subst (λ (z : X). Turn L g text x z p) (sym same) (no_line (subst (λ (g : Found). Unread g p) (sym e) (subst (Unread f) (sym h) u)))

  pub passed_none : (x : X) (o : Outcome) → o ≡ Outcome.Going → Passed L x x o
  passed_none x o e = subst (Passed L x x) (sym e) begun

  pub passed-next : {x y z : X} {before after : Outcome} → before ≡ Outcome.Going → Passed L x y before → Next L y z after → Passed L x z after
  passed-next {x = x} {y = y} e p n = then (subst (Passed L x y) e p) n.turn
