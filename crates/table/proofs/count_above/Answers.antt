use mathlib.Core.Path.{◌≡◌, sym, ap₂, ◌∙◌}
use mathlib.Core.Bool.{Bool, false, true}
use Prim.Native.Nat.{◌+◌, ◌*◌, ◌/◌, ◌<◌}
use native.Mathlib.Omega.{arith}
use lib.Ieee.{Float, lt}
use lib.ListN.{get_or}
use Rattle.model.specs.Floats.{float}
use Rattle.table.proofs.Words.{heavier-few, more, no_more}
use Rattle.table.proofs.count_above.Goals as goal

pub loop-low-init : goal.loop-low-init
loop-low-init c = let a = c.args in (omega arith, omega arith, heavier-few a.m a.part.now (float a.weight))

pub loop-low-preserved-then-w-float_of : goal.loop-low-preserved-then-w-float_of
loop-low-preserved-then-w-float_of c =
    -- the pair looked at is one of the m
    let there : ((c.loop-low.low + c.loop-low.high) / 2) < c.args.m = omega (arith, c.loop-low.invariant, c.loop-low-test.true) in
    -- what the test tells of it
    let looked : (t : Bool) → lt c.float_of-w.result c.float_of.result ≡ t → lt (float c.args.weight) (float (get_or c.args.part.now (2 * ((c.loop-low.low + c.loop-low.high) / 2) + 1) 0)) ≡ t = λ t e. ap₂ (λ (x y : Float). lt x y) (sym c.float_of-w.ensures) (sym c.float_of.ensures) ∙ e in
    let a = c.args in
    let p = c.requires in
    let h = more a.m a.part.now a.weight ((c.loop-low.low + c.loop-low.high) / 2) there p.2 p.3 (looked true c.if-w-float_of.true) in
    (c.loop-low.invariant.0, omega (arith, h), c.loop-low.invariant.2)

pub loop-low-preserved : goal.loop-low-preserved
loop-low-preserved c =
    -- the pair looked at is one of the m
    let there : ((c.loop-low.low + c.loop-low.high) / 2) < c.args.m = omega (arith, c.loop-low.invariant, c.loop-low-test.true) in
    -- what the test tells of it
    let looked : (t : Bool) → lt c.float_of-w.result c.float_of.result ≡ t → lt (float c.args.weight) (float (get_or c.args.part.now (2 * ((c.loop-low.low + c.loop-low.high) / 2) + 1) 0)) ≡ t = λ t e. ap₂ (λ (x y : Float). lt x y) (sym c.float_of-w.ensures) (sym c.float_of.ensures) ∙ e in
    let a = c.args in
    (omega (arith, there), c.loop-low.invariant.1, no_more a.m a.part.now a.weight ((c.loop-low.low + c.loop-low.high) / 2) there (looked false c.if-w-float_of.false))
