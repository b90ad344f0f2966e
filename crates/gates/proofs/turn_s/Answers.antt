use Rattle.gates.proofs.Rows.{three-words}
use Rattle.gates.proofs.Masks.{s-written}
use Rattle.gates.proofs.turn_s.Goals as goal

-- its two writes leave the turned row
pub returns : goal.returns
returns c = s-written c.args.q (three-words c.args.row.now c.requires.0) c.power.ensures c.select.ensures
