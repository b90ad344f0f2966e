-- The weights are saved before they are scaled.
use mathlib.Core.Path.{ap, ◌∙◌}
use mathlib.Core.List.{map}
use lib.Ieee.{Float}
use Rattle.model.specs.Floats.{float, one_bits, minus}
use Rattle.model.specs.Entries.{listed}
use Rattle.spread.specs.Branches.{scaled_by}
use Rattle.spread.proofs.Spreads.{still-few, spread-is}
use Rattle.spread.proofs.spread.Goals as goal

pub returns : goal.returns
returns c =
    let a = c.args in
    let size = a.limits.size in
    let old = c.save_weights.ensures in
    let m = c.merge_parents in
    let scaled = c.scale_parents.ensures.1 ∙ ap (λ (t : Float). map (scaled_by a.arms.shape (minus (float one_bits) t)) (listed size a.count a.store.now)) c.total_rate-keep.ensures in
    (old.0, old.1, spread-is size a.limits.threshold a.limits.cutoff a.arms a.count _ a.store.now _ _ m.result old.1 scaled m.ensures)

pub merge_parents-requires-clause-packed : goal.merge_parents-requires-clause-packed
merge_parents-requires-clause-packed c =
    let a = c.args in
    let scaled = c.scale_parents.ensures in
    (scaled.0, still-few a.limits.size a.arms.shape _ a.count a.store.now _ scaled.1 c.requires.packed.1, c.note_listed.ensures)
