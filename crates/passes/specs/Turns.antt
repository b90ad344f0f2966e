-- A pass through lines, whatever it makes of them: what a line does to a state of type X, and how the pass stands then, is a relation L by its text. (A line is what
-- was read; that it is the circuit's is no matter of contracts.) Assumes nothing.
use Rattle.std.specs.Prelude.{ℕ, List}
use Rattle.input.specs.declared.Found.{Found}
use Rattle.circuit.specs.declared.lines.Fault.{Fault}
use Rattle.circuit.specs.declared.lines.Item.{Item}
use Rattle.circuit.specs.declared.lines.Item.TheVariants.{Nothing, Repeat, Close, Bad}
use Rattle.passes.specs.declared.Outcome.{Outcome}

-- how a pass stands after a line that is no instruction
pub data Stands : Item → Outcome → Type 0 where
  nothing : Stands Nothing Outcome.Going
  opened : {times : ℕ} → Stands (Repeat times) Outcome.Going
  too_deep : {times : ℕ} → Stands (Repeat times) Outcome.TooDeep
  closed : Stands Close Outcome.Going
  no_repeat : Stands Close Outcome.NoRepeat
  bad : {fault : Fault} → Stands (Bad fault) (Outcome.Bad fault)

-- how a pass ends where no line was found: only the circuit's end is one
pub data Unread : Found → Outcome → Type 0 where
  done : Unread Found.End Outcome.Done
  too_long : Unread Found.TooLong Outcome.TooLong
  failed : Unread Found.Failed Outcome.Failed
  cut : Unread Found.Cut Outcome.Cut

-- A TURN: the line that was found is gone through, or the pass ends
pub data Turn {X : Type 0} (L : List ℕ → X → X → Outcome → Type 0) : Found → (text : List ℕ) → X → X → Outcome → Type 0 where
  line : {text : List ℕ} {x y : X} {o : Outcome} → L text x y o → Turn L Found.Line text x y o
  no_line : {found : Found} {text : List ℕ} {x : X} {o : Outcome} → Unread found o → Turn L found text x x o

-- .. whatever is found
pub record Next {X : Type 0} (L : List ℕ → X → X → Outcome → Type 0) (x y : X) (o : Outcome) : Type 0 where
  pub found : Found
  pub text : List ℕ
  pub turn : Turn L found text x y o

-- ALL LINES that were read, each from what the one before it left, while the pass goes on
pub data Passed {X : Type 0} (L : List ℕ → X → X → Outcome → Type 0) (x : X) : X → Outcome → Type 0 where
  begun : Passed L x x Outcome.Going
  then : {y z : X} {o : Outcome} {found : Found} {text : List ℕ} → Passed L x y Outcome.Going → Turn L found text y z o → Passed L x z o
