use Rattle.std.proofs.Common.{◌∙◌}
use Rattle.branch.proofs.Onto.{part-copied}
use Rattle.branch.proofs.copy_part.Goals as goal

pub returns : goal.returns
returns c =
    let a = c.args in
    c.copy_within.ensures.after ∙ part-copied a.from a.to a.store.now a.len c.requires.0 c.requires.1
