-- What a view of the entry at a place shows, read by the definitions of document 01. Assumes nothing.
use Rattle.std.specs.Prelude.{List, ℕ}
use Rattle.model.specs.Entries.{Keyed, entry_of}
use Rattle.model.specs.Calls.{Left, view, held, step}
use Rattle.model.specs.declared.Header.{Header}

-- the words that a call shows as an entry, at the size of its answer
abbrev pub entry_in : Left → Keyed
entry_in l = entry_of l.answer.header.size l.output

abbrev pub shown_entry : Header → List ℕ → ℕ → Keyed
shown_entry h w place = entry_in (step (view place) (held h w))
