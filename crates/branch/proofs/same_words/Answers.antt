use Rattle.std.proofs.Common.{sym}
use Rattle.model.proofs.Lists.{all_none}
use Rattle.branch.proofs.Same.{words-next}
use Rattle.branch.proofs.same_words.Goals as goal

pub loop-i-init : goal.loop-i-init
loop-i-init c = sym (all_none _)

pub loop-i-preserved : goal.loop-i-preserved
loop-i-preserved c = words-next c.args.e.now c.args.p.now c.loop-i.differ c.loop-i.i c.loop-i.invariant
