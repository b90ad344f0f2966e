use Rattle.std.proofs.Common.{arith}
use Rattle.entries.proofs.Slots.{in-limits, as_long, first-within}
use Rattle.weights.proofs.Kept.{none_passed, one_kept, one-gone, all-kept, all_taken}
use Rattle.weights.proofs.keep_above.Goals.{then-cutoff-weight, else-cutoff-weight}
use Rattle.weights.proofs.keep_above.Goals as goal

pub entry_len-len-requires : goal.entry_len-len-requires
entry_len-len-requires c = in-limits c.requires

pub loop-i-init : goal.loop-i-init
loop-i-init c = (omega arith, none_passed c.requires)

pub overflow_mul-i : goal.overflow_mul-i
overflow_mul-i c = omega (arith, first-within c.requires c.entry_len-len.ensures c.loop-i-test.true)

pub offset_bounds-store-i : goal.offset_bounds-store-i
offset_bounds-store-i c = omega (arith, first-within c.requires c.entry_len-len.ensures c.loop-i-test.true)

pub bounds-store-i : goal.bounds-store-i
bounds-store-i c = omega (arith, first-within c.requires c.entry_len-len.ensures c.loop-i-test.true, as_long c.loop-i.invariant.1.packed c.requires)

pub move_entry-requires : goal.move_entry-requires
move_entry-requires c = (c.loop-i.invariant.1.packed, c.loop-i-test.true, c.loop-i.invariant.0)

pub loop-i-preserved : goal.loop-i-preserved
loop-i-preserved c =
    let k = c.loop-i.invariant.1 in
    let h = c.loop-i-test.true in
    let e = c.entry_len-len.ensures in
    elim c.if-cutoff-weight.branch [
      | then-cutoff-weight w ↦
          (omega arith, rw (w.store-is, w.left-is, w.taken-is) (one_kept k h e c.float_of-weight.ensures c.loop-i.invariant.0 w.if-cutoff-weight.true w.move_entry.ensures))
      | else-cutoff-weight w ↦
          (omega arith, rw (w.store-is, w.left-is, w.taken-is) (one-gone k h e c.float_of-weight.ensures w.if-cutoff-weight.false))
    ]

pub clear_from-requires : goal.clear_from-requires
clear_from-requires c = (c.loop-i.invariant.1.packed, omega arith)

pub returns : goal.returns
returns c =
    let k = c.loop-i.invariant.1 in
    let h = c.loop-i-test.false in
    record {
      holds = all-kept k h c.clear_from.ensures.0 c.clear_from.ensures.1;
      taken_value = all_taken k h;
    }
