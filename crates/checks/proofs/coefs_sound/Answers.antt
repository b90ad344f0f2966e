-- Where a counted coefficient is not sound, the places behind are of no matter.
use Rattle.std.proofs.Common.{sym, ◌∙◌, arith}
use Rattle.model.specs.Numbers.{coefs_sound}
use Rattle.checks.proofs.Ors.{all-fewer}
use Rattle.checks.proofs.coefs_sound.Goals as goal

pub returns-else-counted_sound : goal.returns-else-counted_sound
unfolding coefs_sound
returns-else-counted_sound c = c.if-counted_sound.false ∙ sym (all-fewer _ _ _ (omega arith) (sym c.counted_sound-2.ensures ∙ c.if-counted_sound.false))
