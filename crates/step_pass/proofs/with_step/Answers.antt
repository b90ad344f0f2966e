-- The step stands behind those that there were, or there are 64.
use Rattle.std.proofs.Common.{◌≡◌, ◌∷◌, [], sym, subst, length, rules, List}
use Rattle.model.specs.Trials.{max_steps}
use Rattle.model.specs.Calls.{Call}
use Rattle.passes.specs.declared.Outcome.TheVariants as Outcome
use Rattle.step_pass.specs.Gathering.{step_call, steps_of, Taken, too_many}
use Rattle.step_pass.proofs.Gathering.{step-taken, all_there}
use Rattle.step_pass.proofs.with_step.Goals as goal

pub returns-then-count-lt64 : goal.returns-then-count-lt64
unfolding steps_of
returns-then-count-lt64 c =
    let g = c.args.g in
    let long : length g.steps ≡ max_steps = search rules in
    subst (Taken (step_call c.args.step ∷ []) (steps_of g) _) (sym c.requires) (step-taken g.steps g.count long c.args.step c.if-count-lt64.true)

pub returns : goal.returns
unfolding steps_of
returns c =
    let g = c.args.g in
    let e = c.ended.ensures in
    let taken = step_call c.args.step ∷ [] in
    let long : length g.steps ≡ max_steps = search rules in
    subst (Taken taken (steps_of g) (steps_of c.ended.result)) (sym e.0)
    (subst (λ (after : List Call). Taken taken (steps_of g) after Outcome.TooManySteps) (sym e.1) (too_many (all_there g.steps g.count long c.if-count-lt64.false)))
