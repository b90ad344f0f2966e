use Rattle.std.proofs.Common.{arith, ◌∙◌}
use Rattle.model.specs.Entries.{listed}
use Rattle.model.specs.Store.{keyed_weighed}
use Rattle.model.specs.Gates.{turned}
use Rattle.model.proofs.Entries.{length-listed}
use Rattle.entries.proofs.Slots.{slots_end, slot-end, part_length, in-limits}
use Rattle.entries.proofs.Turns.{begin, turn, became, below_all}
use Rattle.gates.proofs.Entries.{turned-fits}
use Rattle.gates.proofs.turn_entries.Goals as goal

pub entry_len-len-requires : goal.entry_len-len-requires
entry_len-len-requires c = in-limits c.requires.0

pub loop-place-init : goal.loop-place-init
loop-place-init c = begin _ _ _ _ c.requires.0

pub overflow_mul-at : goal.overflow_mul-at
overflow_mul-at c =
    let p = c.loop-place.invariant.packed in
    omega (arith, slot-end _ c.entry_len-len.result _ c.args.count p.sized c.entry_len-len.ensures p.room c.loop-place.place c.loop-place-test.true)

pub turn_entry-requires : goal.turn_entry-requires
turn_entry-requires c =
    let a = c.args in
    let e = c.entry_len-len in
    let p = c.loop-place.invariant.packed in
    (in-limits c.requires.0, part_length a.size e.result e.ensures c.loop-place.place a.count c.loop-place.store (slots_end a.size e.result _ a.count p.sized e.ensures p.room) c.loop-place-test.true, c.requires.1)

pub loop-place-preserved : goal.loop-place-preserved
loop-place-preserved c =
    let a = c.args in
    let e = c.entry_len-len in
    let p = c.loop-place.invariant.packed in
    let f = turned keyed_weighed a.size.n a.gate in
    let long = part_length a.size e.result e.ensures c.loop-place.place a.count c.loop-place.store (slots_end a.size e.result _ a.count p.sized e.ensures p.room) c.loop-place-test.true in
    turn a.size a.count (λ i. f) a.store.now e.result e.ensures c.loop-place.place c.loop-place.store _ c.loop-place-test.true c.loop-place.invariant
    (became a.size f (turned-fits a.size a.gate _ long) c.turn_entry.ensures)

pub returns : goal.returns
returns c =
    let a = c.args in
    let d = c.loop-place.invariant in
    (d.packed, d.entries ∙ below_all (turned keyed_weighed a.size.n a.gate) c.loop-place.place (listed a.size a.count a.store.now) (omega (arith, length-listed a.size a.count a.store.now)))
