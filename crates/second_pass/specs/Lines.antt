-- What the second pass does to the sum, and how it ends: the calls that the lines stand for, made one after the other, up to the first that is refused.
-- (A line is what was read; that it is the circuit's is no matter of contracts.) Assumes nothing.
use Rattle.std.specs.Prelude.{ℕ, ◌≡◌, true, List, [], ◌∷◌, ◌++◌, map, Float}
use Rattle.model.specs.Calls.{Call, Lent, step}
use Rattle.model.specs.Demand3.{next, after_calls, made_of}
use Rattle.passes.specs.Turns.{Stands}
use Rattle.passes.specs.declared.Outcome.{Outcome}
use Rattle.circuit.specs.Names.{takes_pairs}
use Rattle.circuit.specs.Lines.{line_of}
use Rattle.circuit.specs.Targets.{targets_from}
use Rattle.circuit.specs.declared.lines.Act.{Act}
use Rattle.circuit.specs.declared.lines.Item.{Item}
use Rattle.circuit.specs.declared.lines.Item.TheVariants.{Nothing, Call as call, Repeat, Close, Bad}
use Rattle.calls.specs.Instructions.{call_of}

-- the calls of an instruction: one for each target, from a place of its line on
unfoldable pub calls_of : Act → List Float → (text : List ℕ) → (at : ℕ) → List Call
calls_of act rates text at = map (λ t. call_of act rates t.p t.q) (targets_from (takes_pairs act) text at)

-- of what a line asks for: no other line makes a call
unfoldable pub calls_for : Item → List Float → (text : List ℕ) → (at : ℕ) → List Call
calls_for (call act) rates text at = calls_of act rates text at
calls_for Nothing rates text at = []
calls_for (Repeat times) rates text at = []
calls_for Close rates text at = []
calls_for (Bad fault) rates text at = []

-- THE CALLS THAT A LINE STANDS FOR
unfoldable pub line_calls : List ℕ → List Call
line_calls text = let l = line_of text in calls_for l.item l.rates text l.targets

-- HOW A PASS STANDS after a call that gave this number: one that is accepted lets it go on, if its line of the trace is written and not too much is lost
pub data After (number : ℕ) : Outcome → Type 0 where
  goes_on_after : number ≡ 0 → After number Outcome.Going
  unwritten : number ≡ 0 → After number Outcome.Unwritten
  too_much_lost : {lost : Float} → number ≡ 0 → After number (Outcome.TooMuchLost lost)
  refused : {p q : ℕ} → (number ≡ 0 → ⊥) → After number (Outcome.Refused number p q)

-- CALLS, made in order on x, which left y, and how the pass stands then: all are made, or the last one that was made has ended it
pub data Made : List Call → Lent → Lent → Outcome → Type 0 where
  all_made : {x : Lent} → Made [] x x Outcome.Going
  goes_on : {c : Call} {cs : List Call} {x y : Lent} {o : Outcome} → After (step c x).answer.number Outcome.Going → Made cs (next (step c x)) y o → Made (c ∷ cs) x y o
  ends : {c : Call} {cs : List Call} {x : Lent} {o : Outcome} → After (step c x).answer.number o → (o ≡ Outcome.Going → ⊥) → Made (c ∷ cs) x (next (step c x)) o

-- A LINE that asks for an item, and the calls that it stands for
pub data Ran : Item → List Call → Lent → Lent → Outcome → Type 0 where
  instruction : {act : Act} {cs : List Call} {x y : Lent} {o : Outcome} → Made cs x y o → Ran (call act) cs x y o
  other : {i : Item} {x : Lent} {o : Outcome} → Stands i o → Ran i [] x x o

-- .. by its text
abbrev pub LineRan : List ℕ → Lent → Lent → Outcome → Type 0
LineRan text = Ran (line_of text).item (line_calls text)

-- ---- WHAT IS SAID WITH THAT of a pass that is over, by the lines that were read (proofs/Whole.antt)

unfoldable pub circuit_calls : List (List ℕ) → List Call
circuit_calls [] = []
circuit_calls (text ∷ lines) = line_calls text ++ circuit_calls lines

-- calls of which each is accepted
pub data Accepted : List Call → Lent → Type 0 where
  none : {x : Lent} → Accepted [] x
  one : {c : Call} {cs : List Call} {x : Lent} → (step c x).answer.number ≡ 0 → Accepted cs (next (step c x)) → Accepted (c ∷ cs) x

-- a pass that has come to the circuit's end: all calls of all lines were made and accepted
pub record Whole (x y : Lent) : Type 0 where
  pub lines : List (List ℕ)
  pub is : y ≡ after_calls (circuit_calls lines) x
  pub accepted : Accepted (circuit_calls lines) x

-- however a pass ends: the calls of the lines up to the first that is refused. Calls are left unmade though none was refused only where a line of the trace could not be
-- written or too much was lost: then no result is printed
pub record UpToRefusal (x y : Lent) (o : Outcome) : Type 0 where
  pub lines : List (List ℕ)
  pub reached : List Call
  pub left : List Call
  pub all : circuit_calls lines ≡ reached ++ left
  pub is : y ≡ after_calls (made_of true reached x) x
  pub none_left : (o ≡ Outcome.Unwritten → ⊥) → ((lost : Float) → o ≡ Outcome.TooMuchLost lost → ⊥) → left ≡ []
