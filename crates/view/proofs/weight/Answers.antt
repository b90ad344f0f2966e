-- `view::weight` meets its contract: the weight is the entry's first word. Assumes nothing.
use Rattle.model.specs.Entries.{entry_of}
use Rattle.view.proofs.weight.Goals as goal

pub returns : goal.returns
unfolding entry_of
returns c = c.float_at.ensures
