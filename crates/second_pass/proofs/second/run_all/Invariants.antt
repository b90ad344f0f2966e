-- The lines so far are run, and the next one is run on what they left.
use Rattle.std.proofs.Common.{◌≡◌}
use Rattle.model.specs.Calls.{held}
use Rattle.model.specs.Known.{Known}
use Rattle.passes.specs.declared.Outcome.TheVariants as Outcome
use Rattle.passes.specs.Turns.{Passed}
use Rattle.second_pass.specs.Lines.{LineRan}
use Rattle.second_pass.proofs.second.run_all.Given as goal

abbrev pub invariant-loop : goal.invariant-loop
invariant-loop l = record {
  known : Known l.r.known (held l.r.header l.store);
  passed : Passed LineRan (held l.initial.r.header l.initial.store) (held l.r.header l.store) l.r.pass.outcome;
  going : l.r.pass.outcome ≡ Outcome.Going;
}
