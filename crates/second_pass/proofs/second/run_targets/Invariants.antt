-- The calls from here on, made on what the sum is now, are the rest of those of the line. Each turn goes on in the line.
use Rattle.std.proofs.Common.{◌≡◌, ◌-◌, length}
use Rattle.model.specs.Calls.{Lent, held}
use Rattle.model.specs.Known.{Known}
use Rattle.passes.specs.declared.Outcome.{Outcome}
use Rattle.second_pass.specs.Lines.{calls_of, Made}
use Rattle.second_pass.proofs.second.run_targets.Given as goal

abbrev pub invariant-loop-p : goal.invariant-loop-p
invariant-loop-p l = record {
  known : Known l.run.known (held l.run.header l.store);
  going : l.run.pass.outcome ≡ Outcome.Going;
  rest : (y : Lent) (o : Outcome) → Made (calls_of l.act l.rates l.line l.at) (held l.run.header l.store) y o → Made (calls_of l.act l.rates l.line l.initial.at) (held l.initial.run.header l.initial.store) y o;
}

abbrev pub decreases-loop-p : goal.decreases-loop-p
decreases-loop-p l = length l.line - l.at
