-- By the branch's fate.
use mathlib.Core.Path.{refl}
use Rattle.merging.specs.Progress.{after}
use Rattle.merging.proofs.counted.Goals as goal

pub returns-in-Merged : goal.returns-in-Merged
unfolding after
returns-in-Merged c = rw c.in-Merged.is refl

pub returns-in-Stored : goal.returns-in-Stored
unfolding after
returns-in-Stored c = rw c.in-Stored.is refl

pub returns-in-Dropped : goal.returns-in-Dropped
unfolding after
returns-in-Dropped c = rw (c.in-Dropped.is, c.float_of.ensures) refl

pub returns-in-NoRoom : goal.returns-in-NoRoom
unfolding after
returns-in-NoRoom c = rw c.in-NoRoom.is refl
