-- The steps that are gathered for trials: the calls that the lines stand for, as long as each is of a channel on one qubit and there are no more than trials have.
-- Assumes nothing.
use Rattle.std.specs.Prelude.{ℕ, ◌<◌, ◌≡◌, List, [], ◌∷◌, ◌++◌, map, Float, length, take}
use Rattle.model.specs.Channels.{one}
use Rattle.model.specs.Calls.{Call, noise}
use Rattle.model.specs.Trials.{max_steps, Plan}
use Rattle.model.specs.declared.Size.{Size}
use Rattle.model.specs.declared.Channel.{Channel}
use Rattle.passes.specs.Turns.{Stands}
use Rattle.passes.specs.declared.Outcome.{Outcome}
use Rattle.circuit.specs.Lines.{line_of}
use Rattle.circuit.specs.declared.lines.Act.{Act}
use Rattle.circuit.specs.declared.lines.Item.{Item}
use Rattle.circuit.specs.declared.lines.Item.TheVariants.{Call as call}
use Rattle.second_pass.specs.Lines.{line_calls, circuit_calls}
use Rattle.step_pass.specs.declared.Step.{Step}
use Rattle.step_pass.specs.declared.Gathered.{Gathered}

-- the calls of the steps so far
abbrev pub step_call : Step → Call
step_call s = noise (one s.channel s.qubit)

unfoldable pub steps_of : Gathered → List Call
steps_of g = take g.count (map step_call g.steps)

-- their trials
abbrev pub plan_on : Size → Float → List Float → Gathered → Plan
plan_on s threshold cutoffs g = record { size = s; threshold = threshold; cutoffs = cutoffs; count = g.count; calls = steps_of g }

-- CALLS, taken in order behind those that there were, and how the pass stands then: all are taken, or there are as many as trials have
pub data Taken : List Call → (before after : List Call) → Outcome → Type 0 where
  all_taken : {before : List Call} → Taken [] before before Outcome.Going
  goes_on : {c : Call} {cs before after : List Call} {o : Outcome} → length before < max_steps → Taken cs (before ++ (c ∷ [])) after o → Taken (c ∷ cs) before after o
  too_many : {c : Call} {cs before : List Call} → length before ≡ max_steps → Taken (c ∷ cs) before before Outcome.TooManySteps

-- A LINE that asks for an item, and the calls that it stands for: only channels on one qubit are steps
pub data Gathers : Item → List Call → (before after : List Call) → Outcome → Type 0 where
  steps : {channel : Channel} {cs before after : List Call} {o : Outcome} → Taken cs before after o → Gathers (call (Act.Channel channel)) cs before after o
  no_steps : {act : Act} {cs before : List Call} → ((channel : Channel) → act ≡ Act.Channel channel → ⊥) → Gathers (call act) cs before before Outcome.NoStep
  other : {i : Item} {before : List Call} {o : Outcome} → Stands i o → Gathers i [] before before o

-- .. by its text
abbrev pub LineGathers : List ℕ → (before after : List Call) → Outcome → Type 0
LineGathers text = Gathers (line_of text).item (line_calls text)

-- WHAT IS SAID WITH THAT of a pass that has come to the circuit's end: the steps are all calls of all lines that were read
pub record WholeSteps (steps : List Call) : Type 0 where
  pub lines : List (List ℕ)
  pub is : steps ≡ circuit_calls lines
