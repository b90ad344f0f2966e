-- What is gathered, if the pass ends with the circuit's end: all calls of all lines that were read. Assumes nothing.
use mathlib.Core.Path.{◌≡◌, refl, sym, ap, ◌∙◌}
use mathlib.Core.List.{List, [], ◌∷◌, ◌++◌, append_assoc, append-nil}
use native.Mathlib.Omega.{arith}
use Rattle.model.specs.Calls.{Call}
use Rattle.passes.specs.Going.{goes}
use Rattle.passes.specs.Turns.{line, no_line, Passed, begun, then}
use Rattle.passes.specs.declared.Outcome.{Outcome}
use Rattle.passes.proofs.Turns.{not_going, other-outcome, stands-not-end, unread-ends}
use Rattle.circuit.specs.declared.lines.Item.{Item}
use Rattle.second_pass.specs.Lines.{line_calls, circuit_calls}
use Rattle.second_pass.proofs.Whole.{one_more}
use Rattle.step_pass.specs.Gathering.{Taken, all_taken, goes_on, too_many, Gathers, steps as all-steps, no_steps, other, LineGathers, WholeSteps}

-- ---- the calls of one line: all stand behind those that there were

taken-all : {cs before after : List Call} {o : Outcome} → Taken cs before after o → o ≡ Outcome.Going → after ≡ before ++ cs
unfolding goes
taken-all (all_taken {before = before}) g = sym (append-nil before)
taken-all (goes_on {c = c} {cs = cs} {before = before} l t) g = taken-all t g ∙ append_assoc before (c ∷ []) cs
taken-all (too_many e) g = absurd (not_going _ refl g)

gathers-all : {i : Item} {cs before after : List Call} {o : Outcome} → Gathers i cs before after o → o ≡ Outcome.Going → after ≡ before ++ cs
unfolding goes
gathers-all (all-steps t) g = taken-all t g
gathers-all (no_steps n) g = absurd (not_going _ refl g)
gathers-all (other {before = before} s) g = sym (append-nil before)

-- ---- the circuit's end is read in no line

taken-not-end : {cs before after : List Call} {o : Outcome} → Taken cs before after o → o ≡ Outcome.Done → ⊥
taken-not-end all_taken = other-outcome _ (λ z. omega (arith, z))
taken-not-end (goes_on l t) = taken-not-end t
taken-not-end (too_many e) = other-outcome _ (λ z. omega (arith, z))

gathers-not-end : {i : Item} {cs before after : List Call} {o : Outcome} → Gathers i cs before after o → o ≡ Outcome.Done → ⊥
gathers-not-end (all-steps t) = taken-not-end t
gathers-not-end (no_steps n) = other-outcome _ (λ z. omega (arith, z))
gathers-not-end (other s) = stands-not-end s

-- ---- LINE AFTER LINE

-- all calls so far, and those of one line more
passed-going : {steps : List Call} {o : Outcome} → Passed LineGathers [] steps o → o ≡ Outcome.Going → WholeSteps steps
unfolding circuit_calls
passed-going begun g = record { lines = []; is = refl }
passed-going (then p (line {text = text} r)) g =
    let w = passed-going p refl in
    record {
      lines = w.lines ++ text ∷ [];
      is = gathers-all r g ∙ ap (λ (cs : List Call). cs ++ line_calls text) w.is ∙ sym (one_more w.lines text);
    }
passed-going (then p (no_line u)) g = absurd (unread-ends u g)

-- A PASS THAT ENDS WITH THE CIRCUIT'S END has gathered all calls of all lines
pub passed-whole : {steps : List Call} {o : Outcome} → Passed LineGathers [] steps o → o ≡ Outcome.Done → WholeSteps steps
unfolding goes
passed-whole begun e = absurd (not_going _ refl (sym e))
passed-whole (then p (line r)) e = absurd (gathers-not-end r e)
passed-whole (then p (no_line u)) e = passed-going p refl
