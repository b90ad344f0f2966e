-- From each place that the loop comes to, the run ends where it ends from the first on.
use Rattle.std.proofs.Common.{◌≡◌}
use Rattle.circuit.specs.Runs.{is_of, run_end}
use Rattle.circuit.proofs.runs.end.Given as goal

abbrev pub invariant-loop-i : goal.invariant-loop-i
invariant-loop-i l = run_end (is_of l.run) l.line l.i ≡ run_end (is_of l.run) l.line l.at
