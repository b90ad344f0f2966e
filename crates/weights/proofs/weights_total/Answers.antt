use Rattle.std.proofs.Common.{refl, sym, ◌∙◌, arith}
use Rattle.model.specs.Sum.{total}
use Rattle.entries.proofs.Slots.{in-limits, first-within}
use Rattle.weights.proofs.Weights.{added-step, added-all}
use Rattle.weights.proofs.weights_total.Goals as goal

pub entry_len-len-requires : goal.entry_len-len-requires
entry_len-len-requires c = in-limits c.requires

pub loop-i-init : goal.loop-i-init
unfolding total
loop-i-init c = λ s e. refl

pub overflow_mul-i : goal.overflow_mul-i
overflow_mul-i c = omega (arith, first-within c.requires c.entry_len-len.ensures c.loop-i-test.true)

pub offset_bounds-store-i : goal.offset_bounds-store-i
offset_bounds-store-i c = omega (arith, first-within c.requires c.entry_len-len.ensures c.loop-i-test.true)

pub bounds-store-i : goal.bounds-store-i
bounds-store-i c = first-within c.requires c.entry_len-len.ensures c.loop-i-test.true

pub loop-i-preserved : goal.loop-i-preserved
loop-i-preserved c s e =
    rw (c.float_of-sum.ensures, e) (added-step s c.args.count c.loop-i.i c.args.store.now c.loop-i-test.true c.loop-i.sum) ∙ c.loop-i.invariant s e

pub returns : goal.returns
returns c =
    let a = c.args in
    sym (added-all a.size a.count c.loop-i.i a.store.now c.loop-i.sum c.loop-i-test.false) ∙ c.loop-i.invariant a.size c.entry_len-len.ensures
