use mathlib.Core.Path.{◌∙◌, sym}
use Rattle.model.specs.Lists.{every}
use Rattle.model.specs.Numbers.{rates}
use Rattle.model.proofs.Lists.{and-true}
use Rattle.noise.proofs.calls.depolarize2_known.Goals as goal

pub returns : goal.returns
unfolding every rates
returns c = c.call.ensures _ c.depolarize2_arms.ensures (c.rate_sound-named.ensures ∙ sym (and-true _))
