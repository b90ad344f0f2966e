-- The field is all ones in a NaN and in an infinity alone.
use borrow.Author.Rules.{rules}
use Rattle.model.proofs.Floats.{finite-bits}
use Rattle.likeness.proofs.finite_bits.Goals as goal

pub returns : goal.returns
returns c = finite-bits c.args.w (search rules)
