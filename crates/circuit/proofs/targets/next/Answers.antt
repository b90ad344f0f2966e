use Rattle.std.proofs.Common.{true, false}
use Rattle.circuit.specs.Targets.{target_at}
use Rattle.circuit.proofs.Steps.{target-stepped}
use Rattle.circuit.proofs.targets.next.Goals as goal

pub returns-then-pairs-clause-stepped : goal.returns-then-pairs-clause-stepped
unfolding target_at
returns-then-pairs-clause-stepped c = rw c.next_pair.ensures (target-stepped c.args.line.now true c.args.at c.requires)

pub returns-clause-stepped : goal.returns-clause-stepped
unfolding target_at
returns-clause-stepped c = rw c.next_qubit.ensures (target-stepped c.args.line.now false c.args.at c.requires)
