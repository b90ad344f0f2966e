-- Laws of steps that are gathered, for the loop over targets and for lines; and the calls that trials make of them. Assumes nothing.
use Prim.Native.Nat.{ℕ, zero, suc, ◌+◌, ◌<◌, ◌≤◌}
use mathlib.Core.Path.{◌≡◌, refl, sym, ap, ap₂, subst, ◌∙◌}
use mathlib.Core.Bool.{false}
use mathlib.Core.List.{List, [], ◌∷◌, ◌++◌, map}
use native.Mathlib.Omega.{arith}
use lib.Ieee.{Float}
use lib.ListN.{length, take, set, length-map}
use lib.Seq.{length-take-le, take_all, take-suc-set}
use Rattle.std.proofs.lemmas.List.{map-set}
use Rattle.model.specs.Channels.{one}
use Rattle.model.specs.Calls.{Call, noise}
use Rattle.model.specs.Trials.{max_steps, step_calls, plan_of}
use Rattle.model.specs.declared.Size.{Size}
use Rattle.model.specs.declared.Channel.{Channel}
use Rattle.passes.specs.Going.{goes}
use Rattle.passes.specs.Turns.{Stands}
use Rattle.passes.specs.declared.Outcome.{Outcome}
use Rattle.passes.proofs.Turns.{not_going}
use Rattle.circuit.specs.Lines.{line_of}
use Rattle.circuit.specs.Targets.{target_at}
use Rattle.circuit.specs.declared.lines.Act.{Act}
use Rattle.circuit.specs.declared.lines.Item.{Item}
use Rattle.circuit.specs.declared.lines.Item.TheVariants.{Call as call}
use Rattle.circuit.specs.declared.lines.Line.{Line}
use Rattle.circuit.specs.declared.lines.Seen.TheVariants.{At}
use Rattle.circuit.specs.declared.lines.Target.{Target}
use Rattle.second_pass.specs.Lines.{calls_of, calls_for, line_calls}
use Rattle.second_pass.proofs.Lines.{calls-end, calls-next, item-is, line-calls}
use Rattle.step_pass.specs.declared.Step.{Step}
use Rattle.step_pass.specs.declared.Gathered.{Gathered}
use Rattle.step_pass.specs.Gathering.{step_call, steps_of, plan_on, Taken, all_taken, goes_on, too_many, Gathers, steps as all-steps, no_steps, other, LineGathers}

-- ---- one step

-- the first `count` of 64, and one more
module _ (steps : List Step) (count : ℕ) (long : length steps ≡ max_steps) where
  calls-long : length (map step_call steps) ≡ max_steps
  calls-long = length-map steps step_call ∙ long

  pub step-taken : (s : Step) → count < max_steps → Taken (step_call s ∷ []) (take count (map step_call steps)) (take (count + 1) (map step_call (set steps count s))) Outcome.Going
  step-taken s h =
      let before = take count (map step_call steps) in
      let l : count < length (map step_call steps) = omega (arith, calls-long, h) in
      let n : count + 1 ≡ suc count = omega arith in
      let e =
      ap (λ (k : ℕ). take k (map step_call (set steps count s))) n
      ∙ ap (take (suc count)) (map-set step_call steps count s)
      ∙ take-suc-set (map step_call steps) count (step_call s) l in
      goes_on {before = before} (omega (arith, length-take-le count (map step_call steps) (omega (arith, l)), h))
      (subst (λ (after : List Call). Taken [] (before ++ (step_call s ∷ [])) after Outcome.Going) (sym e) all_taken)

  -- there may be no more
  pub all_there : (max_steps ≤ count) → length (take count (map step_call steps)) ≡ max_steps
  all_there h = ap (λ (l : List Call). length l) (take_all count (map step_call steps) (omega (arith, calls-long, h))) ∙ calls-long

-- ---- the steps of an instruction

-- one call was taken, of which more follow: it was one too many
taken-ends : {c : Call} (cs : List Call) {before after : List Call} {o : Outcome} → Taken (c ∷ []) before after o → (o ≡ Outcome.Going → ⊥) → Taken (c ∷ cs) before after o
taken-ends cs (goes_on l all_taken) n = absurd (n refl)
taken-ends cs (too_many e) n = too_many e

-- .. or the pass goes on with those
taken-goes-on : {c : Call} (cs : List Call) {before after last : List Call} {o u : Outcome} → Taken (c ∷ []) before after o → o ≡ Outcome.Going → Taken cs after last u
    → Taken (c ∷ cs) before last u
unfolding goes
taken-goes-on cs (goes_on l all_taken) g m = goes_on l m
taken-goes-on cs (too_many e) g m = absurd (not_going _ refl g)

-- what is seen from a place of the line of a channel on
module _ (channel : Channel) (rates : List Float) (text : List ℕ) (at : ℕ) (t : Target) (e : t ≡ target_at false text at) where
  abbrev calls : ℕ → List Call
  calls at = calls_of (Act.Channel channel) rates text at

  -- no target is left
  pub none_left : ((p q : ℕ) → t.seen ≡ At p q → ⊥) → (before : List Call) (o : Outcome) → o ≡ Outcome.Going → Taken (calls at) before before o
  none_left h before o g =
      subst (λ (cs : List Call). Taken cs before before o) (sym (calls-end (Act.Channel channel) rates text at t e h)) (subst (Taken [] before before) (sym g) all_taken)

  -- a turn of the loop over targets: the step was taken
  module _ (p q : ℕ) (s : t.seen ≡ At p q) (before after : List Call) (o : Outcome) (taken : Taken (noise (one channel p) ∷ []) before after o) where
    first : calls at ≡ noise (one channel p) ∷ calls t.to
    first = calls-next (Act.Channel channel) rates text at t e p q s

    -- the pass has ended with it
    pub turn-ends : (o ≡ Outcome.Going → ⊥) → Taken (calls at) before after o
    turn-ends n = subst (λ (cs : List Call). Taken cs before after o) (sym first) (taken-ends (calls t.to) taken n)

    -- it goes on
    pub turn-goes-on : o ≡ Outcome.Going → (last : List Call) (u : Outcome) → Taken (calls t.to) after last u → Taken (calls at) before last u
    turn-goes-on g last u m = subst (λ (cs : List Call). Taken cs before last u) (sym first) (taken-goes-on (calls t.to) taken g m)

-- of whatever instruction: only a channel's targets are steps
module _ (act : Act) (rates : List Float) (text : List ℕ) (at : ℕ) {before after : List Call} where
  pub of-channel : (channel : Channel) → act ≡ Act.Channel channel → {o : Outcome} → Taken (calls_of (Act.Channel channel) rates text at) before after o
      → Gathers (call act) (calls_of act rates text at) before after o
  of-channel channel e {o = o} t = subst (λ (act : Act). Gathers (call act) (calls_of act rates text at) before after o) (sym e) (all-steps t)

  -- what a match leaves beside a channel
  pub of-no-channel : ((channel : Channel) → act ≡ Act.Channel channel → ⊥) → after ≡ before → {o : Outcome} → o ≡ Outcome.NoStep → Gathers (call act) (calls_of act rates text at) before after o
  of-no-channel k same g =
      subst (Gathers (call act) (calls_of act rates text at) before after) (sym g)
      (subst (λ (z : List Call). Gathers (call act) (calls_of act rates text at) before z Outcome.NoStep) (sym same) (no_steps k))

-- ---- lines

-- a line that was read as l, and what that asks for
module _ (text : List ℕ) (l : Line) (e : l ≡ line_of text) {i : Item} (asks : l.item ≡ i) where
  -- its steps were gathered as those of what it asks for
  pub line-gathers : {before after : List Call} {o : Outcome} → Gathers i (calls_for i l.rates text l.targets) before after o → LineGathers text before after o
  line-gathers {before = before} {after = after} {o = o} g =
      subst (λ (j : Item). Gathers j (line_calls text) before after o) (item-is text l e asks)
      (subst (λ (cs : List Call). Gathers i cs before after o) (line-calls text l e asks) g)

  -- .. which is no call
  pub gathers-nothing : calls_for i l.rates text l.targets ≡ [] → {before after : List Call} {o : Outcome} → after ≡ before → Stands i o → LineGathers text before after o
  gathers-nothing n {before = before} {after = after} {o = o} same s =
      line-gathers
      (subst (λ (cs : List Call). Gathers i cs before after o) (sym n) (subst (λ (z : List Call). Gathers i [] before z o) (sym same) (other s)))

-- ---- the calls of trials

-- of arrays that were made of the steps: those are the steps' calls, however many are asked for
pub step-calls : (count : ℕ) (steps : List Step) → step_calls count (map (λ s. s.channel) steps) (map (λ s. s.qubit) steps) ≡ take count (map step_call steps)
unfolding step_calls
step-calls zero steps = refl
step-calls (suc n) [] = refl
step-calls (suc n) (s ∷ steps) = ap (λ (cs : List Call). step_call s ∷ cs) (step-calls n steps)

-- .. and so the plan is that of the steps
pub planned : (s : Size) (threshold : Float) (cutoffs : List Float) (g : Gathered) {channels : List Channel} {qubits : List ℕ}
    → channels ≡ map (λ s. s.channel) g.steps → qubits ≡ map (λ s. s.qubit) g.steps → plan_of s threshold cutoffs channels qubits g.count ≡ plan_on s threshold cutoffs g
unfolding steps_of
planned s threshold cutoffs g e f =
    ap (λ (cs : List Call). record { size = s; threshold = threshold; cutoffs = cutoffs; count = g.count; calls = cs })
    (ap₂ (step_calls g.count) e f ∙ step-calls g.count g.steps)
