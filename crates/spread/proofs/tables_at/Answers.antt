-- Where the entry has the x and z of the one that the tables at hand are made from, they are its own.
use Rattle.spread.proofs.Parents.{shared-tables}
use Rattle.spread.proofs.tables_at.Goals as goal

pub returns-then-same_at : goal.returns-then-same_at
returns-then-same_at c =
    (c.requires.4, shared-tables c.args.size c.args.shape (c.same_at.ensures c.if-same_at.true) c.requires.4.tables)
