-- The keys put back into each entry are those worked out from it.
use native.Mathlib.Nat.{le_refl}
use Rattle.model.specs.Entries.{listed}
use Rattle.rebuild.proofs.Worked.{all-rebuilt}
use Rattle.rebuild.proofs.rebuild_keys.Goals as goal

pub returns : goal.returns
returns c =
    let b = c.args in
    let done = c.restore_keys.ensures b.count (le_refl b.count) c.requires in
    (done.0, all-rebuilt b.size.n (listed b.size b.count b.store.now) c.word_keys-words.ensures.1 c.phase_loss_keys-phases.ensures.1 done.1)
