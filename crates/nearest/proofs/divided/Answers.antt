use mathlib.Core.Path.{ap, ◌∙◌}
use mathlib.Core.Bool.{false}
use Prim.Native.Nat.{ℕ, ◌*◌, ◌^◌}
use native.Mathlib.Nat.{mul-one}
use lib.Ieee.{binary64, round}
use Rattle.nearest.proofs.Patterns.{read_back}
use Rattle.nearest.proofs.Far.{too-far-down}
use Rattle.nearest.proofs.divided.Goals as goal

pub returns-then-down-gt342 : goal.returns-then-down-gt342
returns-then-down-gt342 c =
    let s = c in
    too-far-down s.args.m s.args.down s.requires c.if-down-gt342.true

pub returns : goal.returns
returns c =
    let x = c in
    let a = x.args in
    c.float_of.ensures
    ∙ read_back (a.m * 1) (10 ^ a.down) x.exact.result x.exact.ensures
    ∙ ap (λ (n : ℕ). round binary64 false n (10 ^ a.down)) (mul-one a.m)
