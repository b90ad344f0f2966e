use Rattle.std.proofs.Common.{arith}
use Rattle.circuit.proofs.Steps.{target_past}
use Rattle.circuit.proofs.targets.target.Goals as goal

pub returns-clause-is : goal.returns-clause-is
returns-clause-is c = target_past c.args.line.now c.args.at (omega arith) c.args.pairs
