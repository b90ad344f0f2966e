-- `reader::entries_fit`: what is left to read decides.
use mathlib.Core.Path.{◌≡◌}
use Rattle.model.specs.Sheet.{read_entries}
use Rattle.fields.specs.Read.{is_some}
use Rattle.reader.specs.Reading.{lines_on}
use Rattle.reader.proofs.Walked.{Walk, read_from}
use Rattle.reader.proofs.entries_fit.Given as goal

abbrev pub invariant-loop : goal.invariant-loop
invariant-loop l = Walk l.count l.text l.at l.counter × (read_from l.size l.count l.text l.at l.counter ≡ is_some (read_entries l.size l.count (lines_on l.text)))
