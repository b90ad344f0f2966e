-- The slots before are as they were, those behind were 0.
use Rattle.entries.proofs.Emptied.{cleared-packed, cleared-listed}
use Rattle.entries.proofs.clear_from.Goals as goal

pub returns : goal.returns
returns c =
    let a = c.args in
    rw c.entry_len-len.ensures (
      cleared-packed a.size a.from a.count a.store.now c.clear.new.part c.requires.0 c.requires.1 (rw c.entry_len-len.ensures at c.clear.ensures),
      cleared-listed a.size a.from a.count a.store.now c.clear.new.part c.requires.0 c.requires.1,
    )
