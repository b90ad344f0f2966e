use Rattle.std.proofs.Common.{◌+◌, ◌*◌, ◌∙◌, arith}
use borrow.Rule.Slice.PartMut.{mid_len}
use Rattle.model.specs.Entries.{map_rows}
use Rattle.model.specs.Gates.{turned_row}
use Rattle.gates.proofs.Rows.{none_yet, pair-next, all-rows}
use Rattle.gates.proofs.turn_rows.Goals as goal

pub loop-i-init : goal.loop-i-init
loop-i-init c = none_yet (turned_row c.args.gate) _

pub turn_pair-requires : goal.turn_pair-requires
turn_pair-requires c =
    let at = c.loop-i.i * 6 in
    (mid_len at (at + 6) c.loop-i.rows (omega arith) ∙ (omega arith), c.requires.2)

pub loop-i-preserved : goal.loop-i-preserved
loop-i-preserved c = pair-next (turned_row c.args.gate) c.args.rows.now c.loop-i.i c.loop-i.invariant c.turn_pair.ensures

pub returns : goal.returns
unfolding map_rows
returns c = all-rows (turned_row c.args.gate) c.args.rows.now _ (2 * c.args.n) (omega arith) (omega arith) c.requires.0 c.loop-i.invariant
