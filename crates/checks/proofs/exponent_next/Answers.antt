use mathlib.Core.Path.{◌∙◌}
use Prim.Native.Nat.{◌/◌, ◌%◌, ◌^◌}
use native.Mathlib.Omega.{arith}
use Rattle.model.proofs.Floats.{finite-bits}
use Rattle.checks.proofs.Ors.{exponent-fits}
use borrow.Author.Rules.{rules}
use Rattle.checks.proofs.exponent_next.Goals as goal

pub returns : goal.returns
returns c =
    let w = c.args.w in
    exponent-fits (w / 2 ^ 52 % 2 ^ 11) (omega arith) ∙ finite-bits w (search rules)
