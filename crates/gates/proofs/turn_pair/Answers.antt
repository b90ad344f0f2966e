use Rattle.model.specs.Gates.{turned_row}
use Rattle.gates.proofs.Masks.{pair-turned}
use Rattle.gates.proofs.turn_pair.Goals as goal

pub returns : goal.returns
returns c = pair-turned (turned_row c.args.gate) c.args.pair.now c.requires.0 c.turn_row.ensures c.turn_row-2.ensures
