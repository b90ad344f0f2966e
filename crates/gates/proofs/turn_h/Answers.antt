use Rattle.gates.proofs.Rows.{three-words}
use Rattle.gates.proofs.Masks.{h-written}
use Rattle.gates.proofs.turn_h.Goals as goal

-- its three writes leave the turned row
pub returns : goal.returns
returns c = h-written c.args.q (three-words c.args.row.now c.requires.0) c.power-at.ensures c.select.ensures
