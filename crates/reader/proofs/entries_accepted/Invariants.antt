-- `reader::entries_accepted`: what is found of the entries that are left is found of all.
use mathlib.Core.Path.{◌≡◌}
use mathlib.Core.Bool.{true}
use Rattle.model.specs.Lists.{every}
use Rattle.model.specs.Numbers.{entries_sound}
use Rattle.checks.specs.Sound.{entry_sound}
use Rattle.reader.specs.Reading.{lines_on, entries_on}
use Rattle.reader.proofs.Walked.{Walk, read_from, entries_from}
use Rattle.reader.proofs.entries_accepted.Given as goal

abbrev pub invariant-loop : goal.invariant-loop
invariant-loop l = Walk l.count l.text l.at l.counter × (read_from l.size l.count l.text l.at l.counter ≡ true) × (every (entry_sound l.size) (entries_from l.size l.count l.text l.at l.counter) ≡ entries_sound l.size (entries_on l.size l.count (lines_on l.text)))
