-- The calls from here on, taken behind the steps that there are now, are the rest of those of the line. Each turn goes on in the line.
use Rattle.std.proofs.Common.{◌≡◌, ◌-◌, length, List}
use Rattle.model.specs.Calls.{Call}
use Rattle.circuit.specs.declared.lines.Act.TheVariants as Act
use Rattle.passes.specs.declared.Outcome.{Outcome}
use Rattle.second_pass.specs.Lines.{calls_of}
use Rattle.step_pass.specs.Gathering.{steps_of, Taken}
use Rattle.step_pass.proofs.gather_targets.Given as goal

abbrev pub invariant-loop-qubit : goal.invariant-loop-qubit
invariant-loop-qubit l = record {
  going : l.gathered.pass.outcome ≡ Outcome.Going;
  rest : (after : List Call) (o : Outcome) → Taken (calls_of (Act.Channel l.channel) l.l.rates l.line l.at) (steps_of l.gathered) after o → Taken (calls_of (Act.Channel l.channel) l.l.rates l.line l.initial.at) (steps_of l.initial.gathered) after o;
}

abbrev pub decreases-loop-qubit : goal.decreases-loop-qubit
decreases-loop-qubit l = length l.line - l.at
