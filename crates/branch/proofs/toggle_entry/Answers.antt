use Rattle.branch.proofs.Words.{loss-written}
use Rattle.branch.proofs.toggle_entry.Goals as goal

pub returns : goal.returns
returns c = loss-written c.args.size c.args.q c.args.e.now c.args.delta c.requires.1 c.requires.3 c.toggle_loss.ensures
