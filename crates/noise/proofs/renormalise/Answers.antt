use Rattle.noise.proofs.Ends.{some-dropped, none_dropped}
use Rattle.noise.proofs.renormalise.Goals as goal

pub returns-then-p-gt0 : goal.returns-then-p-gt0
returns-then-p-gt0 c = some-dropped c.args.size c.args.p c.args.store.now c.if-p-gt0.true c.normalise_entries.ensures

pub returns-else-p-gt0 : goal.returns-else-p-gt0
returns-else-p-gt0 c = none_dropped c.args.size c.args.p c.args.store.now c.if-p-gt0.false c.requires
