-- A sum that is not dirty has the keys that a channel works with.
use mathlib.Core.Path.{◌∙◌}
use Rattle.noise.proofs.Ran.{not-dirty}
use Rattle.noise.proofs.run.Goals as goal

pub returns-else-h : goal.returns-else-h
returns-else-h c = λ n h. c.run_ready.ensures.store_after n h ∙ not-dirty n c.args.h c.args.store.now c.if-h.false
