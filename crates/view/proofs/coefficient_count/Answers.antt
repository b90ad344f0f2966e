-- `view::coefficient_count` meets its contract: the word stands at its place in the entry. Assumes nothing.
use Rattle.model.specs.Entries.{entry_of}
use Rattle.view.proofs.coefficient_count.Goals as goal

pub returns : goal.returns
unfolding entry_of
returns c = c.word_at.ensures
