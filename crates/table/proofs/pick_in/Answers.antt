use mathlib.Core.Path.{ap, ◌∙◌}
use Rattle.model.specs.Floats.{float, zero_bits}
use Rattle.model.specs.Table.{pick_from, pick_place}
use Rattle.table.proofs.pick_in.Goals as goal

pub returns : goal.returns
unfolding pick_place
returns c =
    let d = c.args.draw in
    c.pick_from.ensures ∙ ap (pick_from d (float zero_bits) 0) c.put_order.ensures
