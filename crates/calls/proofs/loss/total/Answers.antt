-- A sum that `front` lets through is sound enough for its total.
use mathlib.Core.Path.{sym, ◌∙◌}
use Rattle.model.specs.Calls.{held}
use Rattle.model.proofs.Sound.{front-sound}
use Rattle.calls.proofs.loss.total.Goals as goal

pub weights_total-requires : goal.weights_total-requires
weights_total-requires c = (front-sound (held c.args.h c.args.store.now) 0 (sym c.front.ensures ∙ c.if-front-ne0.false)).packed
