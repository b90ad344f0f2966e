use Rattle.noise.proofs.Ends.{no-room-left, ended, nothing_left}
use Rattle.noise.proofs.finish.Goals as goal

pub returns-then-p : goal.returns-then-p
returns-then-p c = no-room-left c.args.size c.args.p c.args.store.now c.args.cutoff c.requires.0 c.if-p.true

pub returns-then-not-renormalise : goal.returns-then-not-renormalise
returns-then-not-renormalise c = nothing_left c.args.size c.args.p c.args.store.now c.args.cutoff c.requires.0 c.if-p.false (rw c.if-not-renormalise.true at c.renormalise.ensures)

pub returns : goal.returns
returns c = ended c.args.size c.args.p c.args.store.now c.args.cutoff c.requires.0 c.if-p.false (rw c.if-not-renormalise.false at c.renormalise.ensures) c.truncate_entries.ensures
