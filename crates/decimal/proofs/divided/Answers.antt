use mathlib.Core.Path.{sym, ap, ◌∙◌}
use mathlib.Core.Bool.{false}
use Prim.Native.Nat.{ℕ, ◌^◌}
use native.Mathlib.Nat.{mul-one}
use lib.Ieee.{Float, binary64, round}
use Rattle.nearest.proofs.Patterns.{below-infinity}
use Rattle.decimal.specs.Decimals.{answer_for, scaled}
use Rattle.decimal.proofs.divided.Goals as goal

pub answer_for-requires : goal.answer_for-requires
answer_for-requires c =
    let a = c.args in
    below-infinity c.divided.result a.m (10 ^ a.down) c.divided.ensures

pub returns : goal.returns
unfolding scaled
returns c =
    let a = c.args in
    c.answer_for.ensures
    ∙ ap (λ (v : Float). answer_for a.negative v a.end) (c.divided.ensures ∙ ap (λ (n : ℕ). round binary64 false n (10 ^ a.down)) (sym (mul-one a.m)))
