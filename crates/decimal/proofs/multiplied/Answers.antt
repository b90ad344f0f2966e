use mathlib.Core.Path.{ap, ◌∙◌}
use Prim.Native.Nat.{◌*◌, ◌^◌}
use lib.Ieee.{Float}
use Rattle.nearest.proofs.Patterns.{below-infinity}
use Rattle.decimal.specs.Decimals.{answer_for, scaled}
use Rattle.decimal.proofs.multiplied.Goals as goal

pub answer_for-requires : goal.answer_for-requires
answer_for-requires c =
    let a = c.args in
    below-infinity c.multiplied.result (a.m * 10 ^ a.up) 1 c.multiplied.ensures

pub returns : goal.returns
unfolding scaled
returns c =
    let a = c.args in
    c.answer_for.ensures ∙ ap (λ (v : Float). answer_for a.negative v a.end) c.multiplied.ensures
