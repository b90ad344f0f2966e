-- Laws of calls made one after the other, for the loop over targets and for lines. Assumes nothing.
use Prim.Native.Nat.{ℕ}
use mathlib.Core.Path.{◌≡◌, sym, ap, subst, ◌∙◌}
use mathlib.Core.Bool.{Bool}
use mathlib.Core.List.{List, [], ◌∷◌, map}
use lib.Ieee.{Float}
use Rattle.model.specs.Calls.{Call, Lent, Left, held, step}
use Rattle.model.specs.Known.{Known, Stepped}
use Rattle.model.specs.Demand3.{next}
use Rattle.model.specs.declared.Answer.{Answer}
use Rattle.model.specs.declared.Header.{Header}
use Rattle.passes.specs.Turns.{Stands}
use Rattle.passes.specs.declared.Outcome.{Outcome}
use Rattle.circuit.specs.Names.{takes_pairs}
use Rattle.circuit.specs.Lines.{line_of}
use Rattle.circuit.specs.Targets.{target_at, Pair}
use Rattle.circuit.specs.declared.lines.Act.{Act}
use Rattle.circuit.specs.declared.lines.Item.{Item}
use Rattle.circuit.specs.declared.lines.Line.{Line}
use Rattle.circuit.specs.declared.lines.Seen.TheVariants.{At}
use Rattle.circuit.specs.declared.lines.Target.{Target}
use Rattle.circuit.proofs.TargetLists.{targets-end, targets_next}
use Rattle.calls.specs.Instructions.{call_of}
use Rattle.second_pass.specs.declared.second.Run.{Run}
use Rattle.second_pass.specs.Lines.{calls_of, calls_for, line_calls, After, Made, all_made, goes_on, ends, Ran, other, LineRan}

-- ---- one call

pub known_as : (j k : Bool) (g h : Header) (w : List ℕ) → k ≡ j → h ≡ g → Known j (held g w) → Known k (held h w)
known_as j k g h w e f b = subst (λ (k : Bool). Known k (held h w)) (sym e) (subst (λ (h : Header). Known j (held h w)) (sym f) b)

-- how the pass stands after an answer's number, after the call
pub stood : {c : Call} {k : Bool} {x : Lent} {a : Answer} {w : List ℕ} {o : Outcome} → Stepped c k x a w → After a.number o → After (step c x).answer.number o
stood {o = o} s h = subst (λ (n : ℕ). After n o) (ap (λ (l : Left). l.answer.number) s.is) h

-- ---- a line that calls nothing

-- a run with the same header
pub same_sum : (r s : Run) (w : List ℕ) → s.header ≡ r.header → held s.header w ≡ held r.header w
same_sum r s w e = ap (λ (h : Header). held h w) e

-- a line that was read as l, and what that asks for
module _ (text : List ℕ) (l : Line) (e : l ≡ line_of text) {i : Item} (asks : l.item ≡ i) where
  pub item-is : i ≡ (line_of text).item
  item-is = sym asks ∙ ap (λ (m : Line). m.item) e

  pub line-calls : calls_for i l.rates text l.targets ≡ line_calls text
  unfolding line_calls
  line-calls =
      ap (λ (j : Item). calls_for j l.rates text l.targets) (sym asks) ∙ ap (λ (m : Line). calls_for m.item m.rates text m.targets) e

  -- it was run as what it asks for
  pub line-ran : {x y : Lent} {o : Outcome} → Ran i (calls_for i l.rates text l.targets) x y o → LineRan text x y o
  line-ran {x = x} {y = y} {o = o} r =
      subst (λ (j : Item). Ran j (line_calls text) x y o) item-is (subst (λ (cs : List Call). Ran i cs x y o) line-calls r)

  -- .. which is no call
  pub calls-nothing : calls_for i l.rates text l.targets ≡ [] → {x y : Lent} {o : Outcome} → y ≡ x → Stands i o → LineRan text x y o
  calls-nothing n {x = x} {y = y} {o = o} same s =
      line-ran (subst (λ (cs : List Call). Ran i cs x y o) (sym n) (subst (λ (z : Lent). Ran i [] x z o) (sym same) (other s)))

-- ---- the calls of an instruction

module _ (act : Act) (rates : List Float) (text : List ℕ) (at : ℕ) (t : Target) (e : t ≡ target_at (takes_pairs act) text at) where
  pub calls-end : ((p q : ℕ) → t.seen ≡ At p q → ⊥) → calls_of act rates text at ≡ []
  unfolding calls_of
  calls-end h = ap (map (λ (t : Pair). call_of act rates t.p t.q)) (targets-end (takes_pairs act) text at t e h)

  pub calls-next : (p q : ℕ) → t.seen ≡ At p q → calls_of act rates text at ≡ call_of act rates p q ∷ calls_of act rates text t.to
  unfolding calls_of
  calls-next p q s = ap (map (λ (t : Pair). call_of act rates t.p t.q)) (targets_next (takes_pairs act) text at t e p q s)

  -- none is left
  pub none_left : ((p q : ℕ) → t.seen ≡ At p q → ⊥) → (x : Lent) (o : Outcome) → o ≡ Outcome.Going → Made (calls_of act rates text at) x x o
  none_left h x o g = subst (λ (cs : List Call). Made cs x x o) (sym (calls-end h)) (subst (Made [] x x) (sym g) all_made)

  -- a turn of the loop over targets: the call was made on x and left y
  module _ (p q : ℕ) (s : t.seen ≡ At p q) (x y : Lent) (is : y ≡ next (step (call_of act rates p q) x)) (o : Outcome) (a : After (step (call_of act rates p q) x).answer.number o) where
    abbrev made : Call
    made = call_of act rates p q

    -- the pass has ended with it
    pub turn-ends : (o ≡ Outcome.Going → ⊥) → Made (calls_of act rates text at) x y o
    turn-ends n =
        subst (λ (cs : List Call). Made cs x y o) (sym (calls-next p q s))
        (subst (λ (z : Lent). Made (made ∷ calls_of act rates text t.to) x z o) (sym is) (ends a n))

    -- it goes on
    pub turn-goes-on : o ≡ Outcome.Going → (z : Lent) (u : Outcome) → Made (calls_of act rates text t.to) y z u → Made (calls_of act rates text at) x z u
    turn-goes-on g z u m =
        subst (λ (cs : List Call). Made cs x z u) (sym (calls-next p q s))
        (goes_on (subst (After _) g a) (subst (λ (y : Lent). Made (calls_of act rates text t.to) y z u) is m))
