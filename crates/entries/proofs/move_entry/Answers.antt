-- An entry written over an earlier one, or over itself.
use Rattle.entries.proofs.Moved.{moved-entry, unmoved-entry}
use Rattle.entries.proofs.move_entry.Goals as goal

pub returns-then-from-to : goal.returns-then-from-to
returns-then-from-to c = unmoved-entry c.requires.0 c.if-from-to.true

pub returns : goal.returns
returns c = moved-entry c.requires.0 c.entry_len-len.ensures c.requires.1 c.requires.2 c.copy_within.ensures.after
