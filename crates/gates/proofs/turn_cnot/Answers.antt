use Rattle.gates.proofs.Rows.{three-words}
use Rattle.gates.proofs.Masks.{cnot-written}
use Rattle.gates.proofs.turn_cnot.Goals as goal

-- its three writes leave the turned row
pub returns : goal.returns
returns c = cnot-written c.args.a c.args.b (three-words c.args.row.now c.requires.0) c.power-at.ensures c.power-to.ensures c.select-zb.ensures c.select-xb.ensures c.select.ensures c.select-2.ensures
