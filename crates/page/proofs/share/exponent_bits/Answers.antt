use mathlib.Core.Path.{refl}
use Rattle.model.specs.Page.{exponent_bits}
use Rattle.page.proofs.share.exponent_bits.Goals as goal

pub returns : goal.returns
unfolding exponent_bits
returns c = refl
