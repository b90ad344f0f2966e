use mathlib.Core.Path.{sym, ap, ◌∙◌}
use Prim.Native.Nat.{ℕ, ◌*◌, ◌^◌}
use native.Mathlib.Nat.{zero-mul}
use native.Mathlib.Omega.{arith}
use lib.Arith.{lt_of_le-ne}
use lib.Ieee.{of_bits}
use Rattle.nearest.proofs.Patterns.{read_back}
use Rattle.words.proofs.Rounded.{zero-rounded}
use Rattle.nearest.proofs.Far.{too-far-up}
use Rattle.nearest.proofs.multiplied.Goals as goal

pub returns-then-m-eq0 : goal.returns-then-m-eq0
returns-then-m-eq0 c =
    let a = c.args in
    zero-rounded (a.m * 10 ^ a.up) 1 (ap (λ (z : ℕ). z * 10 ^ a.up) c.if-m-eq0.true ∙ zero-mul (10 ^ a.up)) (omega arith)

pub returns-then-up-gt308 : goal.returns-then-up-gt308
unfolding of_bits
returns-then-up-gt308 c =
    let a = c.args in
    sym (too-far-up a.m a.up (lt_of_le-ne (omega arith) (λ e. c.if-m-eq0.false (sym e))) c.if-up-gt308.true)

pub returns : goal.returns
returns c =
    let a = c.args in
    c.float_of.ensures ∙ read_back (a.m * 10 ^ a.up) 1 c.exact.result c.exact.ensures
