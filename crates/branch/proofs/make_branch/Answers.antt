-- The head, the coefficients and the rows, one after the other. The parent ends before the slot, which ends within the store.
use Rattle.std.proofs.Common.{arith}
use Rattle.branch.proofs.Slot.{rooms, made-in-slot}
use Rattle.branch.proofs.make_branch.Goals as goal

pub overflow_mul-from : goal.overflow_mul-from
overflow_mul-from c = omega (arith, rooms c.args.size c.args.i c.args.slot c.args.store.now c.entry_len-len.ensures c.requires.1 c.requires.2)

pub overflow_mul-to : goal.overflow_mul-to
overflow_mul-to c = omega (arith, rooms c.args.size c.args.i c.args.slot c.args.store.now c.entry_len-len.ensures c.requires.1 c.requires.2)

pub make_head-requires : goal.make_head-requires
make_head-requires c =
    let r = rooms c.args.size c.args.i c.args.slot c.args.store.now c.entry_len-len.ensures c.requires.1 c.requires.2 in
    (omega (arith, r, c.entry_len-len.ensures), omega (arith, r, c.entry_len-len.ensures), c.requires.3)

pub overflow_add-from : goal.overflow_add-from
overflow_add-from c = omega (arith, rooms c.args.size c.args.i c.args.slot c.args.store.now c.entry_len-len.ensures c.requires.1 c.requires.2, c.entry_len-len.ensures)

pub overflow_add-to : goal.overflow_add-to
overflow_add-to c = omega (arith, rooms c.args.size c.args.i c.args.slot c.args.store.now c.entry_len-len.ensures c.requires.1 c.requires.2, c.entry_len-len.ensures)

pub copy_part-requires : goal.copy_part-requires
copy_part-requires c =
    let r = rooms c.args.size c.args.i c.args.slot c.args.store.now c.entry_len-len.ensures c.requires.1 c.requires.2 in
    (omega (arith, r, c.entry_len-len.ensures), omega (arith, r, c.entry_len-len.ensures, c.make_head.auto.store))

pub overflow_add-from-2 : goal.overflow_add-from-2
overflow_add-from-2 c = omega (arith, rooms c.args.size c.args.i c.args.slot c.args.store.now c.entry_len-len.ensures c.requires.1 c.requires.2, c.entry_len-len.ensures)

pub overflow_add-from-3 : goal.overflow_add-from-3
overflow_add-from-3 c = omega (arith, rooms c.args.size c.args.i c.args.slot c.args.store.now c.entry_len-len.ensures c.requires.1 c.requires.2, c.entry_len-len.ensures)

pub overflow_add-to-2 : goal.overflow_add-to-2
overflow_add-to-2 c = omega (arith, rooms c.args.size c.args.i c.args.slot c.args.store.now c.entry_len-len.ensures c.requires.1 c.requires.2, c.entry_len-len.ensures)

pub overflow_add-to-3 : goal.overflow_add-to-3
overflow_add-to-3 c = omega (arith, rooms c.args.size c.args.i c.args.slot c.args.store.now c.entry_len-len.ensures c.requires.1 c.requires.2, c.entry_len-len.ensures)

pub copy_rows-requires : goal.copy_rows-requires
copy_rows-requires c =
    let e = c.entry_len-len.ensures in
    let r = rooms c.args.size c.args.i c.args.slot c.args.store.now e c.requires.1 c.requires.2 in
    (c.requires.0.qubits, omega (arith, r, e), omega (arith, r, e, c.make_head.auto.store, c.copy_part.auto.store))

pub returns : goal.returns
returns c =
    let a = c.args in
    let e = c.entry_len-len.ensures in
    made-in-slot a.size a.m a.weight a.c a.i a.slot a.store.now c.requires.1 c.requires.2 c.requires.4 (rw e at c.make_head.ensures)
    (rw e at c.copy_part.ensures) (rw e at (c.copy_rows.ensures a.m))
