-- The arguments that are left come to what all of them come to.
use Rattle.std.proofs.Common.{◌≡◌, ◌-◌, ◌≤◌, length}
use Rattle.circuit.specs.Arguments.{arguments_left, no_rates}
use Rattle.circuit.proofs.arguments.inside.Given as goal

abbrev pub invariant-loop-i : goal.invariant-loop-i
invariant-loop-i l = record {
  onward : l.at ≤ l.to;
  within : l.to ≤ length l.line;
  left : arguments_left (15 - l.i) l.line l.rates l.i l.to ≡ arguments_left 15 l.line no_rates 0 l.at;
}
