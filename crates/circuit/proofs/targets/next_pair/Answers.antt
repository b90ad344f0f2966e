use Rattle.circuit.proofs.Steps.{qubit-ends}
use Rattle.circuit.proofs.targets.next_pair.Goals as goal

pub second-requires : goal.second-requires
second-requires c = qubit-ends c.args.line.now c.args.at _ c.next_qubit-a.ensures c.requires
