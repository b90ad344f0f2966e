-- The lines so far are gathered, and the next one is gathered behind their steps.
use Rattle.std.proofs.Common.{◌≡◌, []}
use Rattle.passes.specs.Turns.{Passed}
use Rattle.passes.specs.declared.Outcome.TheVariants as Outcome
use Rattle.step_pass.specs.Gathering.{steps_of, LineGathers}
use Rattle.step_pass.proofs.gather.Given as goal

abbrev pub invariant-loop : goal.invariant-loop
invariant-loop l = record {
  passed : Passed LineGathers [] (steps_of l.g) l.g.pass.outcome;
  going : l.g.pass.outcome ≡ Outcome.Going;
}
