-- What was read is what the call gave.
use Rattle.std.proofs.Common.{inr, refl}
use Rattle.std.proofs.lemmas.Fn.{says_at}
use Rattle.options.proofs.read_option.Goals as goal

pub returns : goal.returns
returns g c = inr (_, says_at g.F.Fn c.read-answer.ensures refl)
