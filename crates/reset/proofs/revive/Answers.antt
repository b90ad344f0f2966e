-- The entry's stretch is lent, and comes back with the words of the live entry.
use Rattle.entries.proofs.Slots.{limits, slots_end, part_length}
use Rattle.reset.proofs.Revived.{loss-delta, revived}
use Rattle.reset.proofs.revive.Goals as goal

pub toggle_entry-requires : goal.toggle_entry-requires
toggle_entry-requires c =
    let a = c.args in
    let p = c.requires in
    let e = c.entry_len-len in (
      limits _ _ p.0.sized,
      part_length a.size e.result e.ensures a.i a.total a.store.now (slots_end a.size e.result _ a.total p.0.sized e.ensures p.0.room) p.1,
      p.2,
      loss-delta _ _ _ c.loss_change-change.ensures,
    )

pub returns : goal.returns
returns c =
    let a = c.args in
    let e = c.entry_len-len in
    revived a.size a.total a.store.now c.requires.0 e.result e.ensures a.i c.requires.1 a.q _ c.toggle_entry.ensures
