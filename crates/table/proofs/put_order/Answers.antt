use Prim.Native.Nat.{◌-◌, ◌≤◌}
use native.Mathlib.Omega.{arith}
use Rattle.table.proofs.Listed.{weight-sound, order-falls, Ordering, none-ordered, all-ordered, part-long, part-order, one-ordered}
use Rattle.table.proofs.put_order.Goals as goal

pub loop-i-init : goal.loop-i-init
loop-i-init c = λ s e. none-ordered c.requires.1

pub insert-requires : goal.insert-requires
insert-requires c =
    let ordering : let a = c.args in Ordering a.size a.count a.store.now c.loop-i.i c.loop-i.out = c.loop-i.invariant c.args.size c.entry_len-len.ensures in
    let a = c.args in
    let h = c.loop-i-test.true in
    let g : c.loop-i.i ≤ a.count = omega arith in (
      part-long ordering h g,
      omega (arith, c.requires.0.packed.room, c.requires.0.packed.sized.capacity.high),
      rw c.entry_len-len.ensures (weight-sound a.size a.count a.store.now (c.loop-i.i - 1) (omega (arith, h, g)) c.requires.0.weights),
      rw (part-order ordering h g) (order-falls a.size a.count a.store.now c.loop-i.i c.requires.0.weights),
    )

pub loop-i-preserved : goal.loop-i-preserved
loop-i-preserved c =
    λ s e. one-ordered (c.loop-i.invariant s e) c.loop-i-test.true (omega arith) c.insert.new.part c.insert.auto.part (rw (← e) c.insert.ensures)

pub returns : goal.returns
returns c =
    let ordering : let a = c.args in Ordering a.size a.count a.store.now c.loop-i.i c.loop-i.out = c.loop-i.invariant c.args.size c.entry_len-len.ensures in
    all-ordered (omega arith) ordering
