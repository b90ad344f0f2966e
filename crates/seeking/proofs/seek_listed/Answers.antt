-- No place is given, so each entry stands at its own.
use Rattle.seeking.proofs.Noting.{gathered-listed}
use Rattle.seeking.proofs.seek_listed.Goals as goal

pub returns : goal.returns
returns c = let a = c.args in rw (gathered-listed a.size a.count a.store.now) at c.seek.ensures
