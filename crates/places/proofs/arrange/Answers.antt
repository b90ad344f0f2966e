use mathlib.Core.Path.{◌∙◌}
use Rattle.places.proofs.Arranged.{all_settled}
use Rattle.places.proofs.arrange.Goals as goal

pub returns : goal.returns
returns c =
    let k = c.clear_from.ensures in
    let i = c.loop-v.invariant in
    (k.0, k.1 ∙ all_settled i.0 c.requires.1 i.1 c.loop-v-test.false ∙ i.2)
