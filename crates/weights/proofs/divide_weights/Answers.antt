use Rattle.std.proofs.Common.{◌∙◌, arith}
use Rattle.model.specs.Entries.{listed}
use Rattle.model.specs.Store.{keyed_weighed}
use Rattle.model.specs.Sum.{divided_by}
use Rattle.model.proofs.Entries.{length-listed}
use Rattle.entries.proofs.Slots.{in-limits, first-within}
use Rattle.entries.proofs.Turns.{begin, below_all}
use Rattle.weights.proofs.Weights.{divided}
use Rattle.weights.proofs.divide_weights.Goals as goal

pub entry_len-len-requires : goal.entry_len-len-requires
entry_len-len-requires c = in-limits c.requires

pub loop-i-init : goal.loop-i-init
loop-i-init c = λ s e p. begin s _ _ _ p

pub overflow_mul-at : goal.overflow_mul-at
overflow_mul-at c = omega (arith, first-within c.requires c.entry_len-len.ensures c.loop-i-test.true)

pub offset_bounds-store-at : goal.offset_bounds-store-at
offset_bounds-store-at c = omega (arith, first-within c.requires c.entry_len-len.ensures c.loop-i-test.true)

pub bounds-store-at : goal.bounds-store-at
bounds-store-at c = omega (arith, first-within c.requires c.entry_len-len.ensures c.loop-i-test.true)

pub loop-i-preserved : goal.loop-i-preserved
loop-i-preserved c s e p = rw (c.bits_of.ensures, c.float_of-weight.ensures, e) (divided c.args.by (c.loop-i.invariant s e p) c.loop-i-test.true)

pub returns : goal.returns
returns c =
    let a = c.args in
    let d = c.loop-i.invariant a.size c.entry_len-len.ensures c.requires in
    record {
      packed = d.packed;
      entries = d.entries ∙ below_all (divided_by keyed_weighed a.by) c.loop-i.i (listed a.size a.count a.store.now) (omega (arith, length-listed a.size a.count a.store.now));
    }
