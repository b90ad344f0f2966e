-- `reader::put_entries`: what was written and the words of the entries that are left give the whole.
use mathlib.Core.Path.{◌≡◌}
use mathlib.Core.Bool.{true}
use mathlib.Core.List.{◌++◌}
use Prim.Native.Nat.{◌*◌}
use lib.ListN.{length, take}
use Rattle.model.specs.Lists.{every}
use Rattle.checks.specs.Sound.{entry_sound}
use Rattle.reader.specs.Reading.{lines_on, entries_on}
use Rattle.reader.proofs.Entry.{words_read}
use Rattle.reader.proofs.Walked.{Walk, read_from, entries_from}
use Rattle.reader.proofs.put_entries.Given as goal

abbrev pub invariant-loop-i : goal.invariant-loop-i
invariant-loop-i l =
    Walk l.count l.text l.at l.i
    × (read_from l.size l.count l.text l.at l.i ≡ true)
    × (every (entry_sound l.size) (entries_from l.size l.count l.text l.at l.i) ≡ true)
    × (length l.slots ≡ length l.initial.slots)
    × (take (l.i * l.len) l.slots ++ words_read (entries_from l.size l.count l.text l.at l.i) ≡ words_read (entries_on l.size l.count (lines_on l.text)))
