use mathlib.Core.Path.{◌≡◌, sym, ap, ◌∙◌, subst}
use Prim.Native.Nat.{ℕ, ◌*◌, ◌≤◌, ◌<◌}
use native.Mathlib.Nat.{le_of_lt, lt_of_le_of_lt, mul-le-mul_left}
use native.Mathlib.Omega.{arith}
use borrow.Author.Tests.{ltb-true, ltb-false}
use Rattle.nearest.specs.Large.{value_of, limit}
use Rattle.nearest.proofs.Large.{one_more, few-steps}
use Rattle.nearest.proofs.climb.Goals as goal

pub overflow_add-k : goal.overflow_add-k
overflow_add-k c =
    let few : c.loop-v.k < 2200 = few-steps (value_of c.args.v.now) c.args.factor c.loop-v.k c.requires.v_nonzero.0 c.requires.v_nonzero.2
    (subst (λ (z : ℕ). z < limit) c.loop-v.invariant.5 (lt_of_le_of_lt c.loop-v.invariant.3 c.requires.large.0.small)) in
    omega (arith, few)

pub loop-v-preserved : goal.loop-v-preserved
loop-v-preserved c =
    -- the next product is not above n yet
    let under : value_of c.loop-v.room ≤ value_of c.args.n.now = ltb-false _ _ (sym c.less.ensures ∙ c.loop-v-test.true) in
    -- v now is what the room held
    let next : value_of c.copy_from_slice-in-loop-v.new.self ≡ value_of c.loop-v.room = ap value_of c.copy_from_slice-in-loop-v.ensures.after in
    -- which is more than before
    let grows : value_of c.loop-v.v * 2 ≤ value_of c.loop-v.room = subst (λ (z : ℕ). value_of c.loop-v.v * 2 ≤ z) (sym c.loop-v.invariant.4) (mul-le-mul_left (value_of c.loop-v.v) c.requires.v_nonzero.2) in
    let a = c.args in (
      c.copy_from_slice-in-loop-v.auto.self ∙ c.loop-v.invariant.0,
      c.times-in-loop-v.auto.a ∙ c.loop-v.invariant.1,
      omega (arith, next, grows, c.loop-v.invariant.2),
      omega (arith, next, under),
      c.times-in-loop-v.ensures ∙ ap (λ (z : ℕ). z * a.factor) (sym next),
      one_more (value_of c.loop-v.v) (value_of c.copy_from_slice-in-loop-v.new.self) (value_of a.v.now) a.factor c.loop-v.k c.loop-v.invariant.5 (next ∙ c.loop-v.invariant.4),
    )

pub returns : goal.returns
returns c =
    let few : c.loop-v.k < 2200 = few-steps (value_of c.args.v.now) c.args.factor c.loop-v.k c.requires.v_nonzero.0 c.requires.v_nonzero.2
    (subst (λ (z : ℕ). z < limit) c.loop-v.invariant.5 (lt_of_le_of_lt c.loop-v.invariant.3 c.requires.large.0.small)) in
    let n = value_of c.args.n.now in
    record {
      multiplied = c.loop-v.invariant.5;
      within = c.loop-v.invariant.3;
      last = subst (λ (z : ℕ). n < z) c.loop-v.invariant.4 (ltb-true _ _ (sym c.less.ensures ∙ c.loop-v-test.false));
      few = le_of_lt few;
    }
