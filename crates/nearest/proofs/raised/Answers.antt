use mathlib.Core.Path.{refl, sym, ap, ◌∙◌, subst}
use Prim.Native.Nat.{ℕ, ◌*◌, ◌^◌, ◌<◌}
use native.Mathlib.Omega.{arith}
use lib.ListN.{length}
use Rattle.nearest.specs.Large.{value_of}
use Rattle.nearest.proofs.Large.{none_yet, one_more, room-left}
use Rattle.nearest.proofs.raised.Goals as goal

pub loop-init : goal.loop-init
loop-init c = (refl, none_yet (value_of c.args.a.now) c.args.factor)

pub times-requires : goal.times-requires
times-requires c =
    let l = c.loop in
    let a = c.args in (
      c.requires.0,
      subst (λ (n : ℕ). value_of l.a * a.factor < 256 ^ n) (sym l.invariant.0)
          (room-left (value_of l.a) (value_of a.a.now) a.factor l.counter a.count (256 ^ length a.a.now) c.requires.1 c.loop-test.true l.invariant.1 c.requires.2),
    )

pub loop-preserved : goal.loop-preserved
loop-preserved c =
    let l = c.loop in
    (c.times.auto.a ∙ l.invariant.0, one_more (value_of l.a) (value_of c.times.new.a) (value_of c.args.a.now) c.args.factor l.counter l.invariant.1 c.times.ensures)

pub returns : goal.returns
returns c =
    let l = c.loop in
    l.invariant.1 ∙ ap (λ (k : ℕ). value_of c.args.a.now * c.args.factor ^ k) (omega arith)
