use Rattle.std.proofs.Common.{◌<◌, ◌-◌, ap₂, ◌∙◌, arith}
use lib.Bits.{xor_zero_r}
use Rattle.model.specs.Entries.{x_at, z_at}
use Rattle.model.specs.Keys.{if_set, x_bit, z_bit}
use Rattle.model.proofs.IfSet.{bit-lt}
use Rattle.changes.proofs.ChangeTables.{sum-down}
use Rattle.changes.proofs.Packed.{packed_none, packed-room, packed-down}
use Rattle.changes.proofs.walk_rows.Goals as goal

pub loop-i-init : goal.loop-i-init
loop-i-init c = (omega arith, packed_none _ _, packed_none _ _, λ s k. (xor_zero_r _, xor_zero_r _))

pub overflow_mul-xs : goal.overflow_mul-xs
overflow_mul-xs c =
    let a = c.args in
    omega (arith, packed-room (x_bit a.rows.now a.q) (λ r. bit-lt a.q (x_at a.rows.now r)) c.loop-i.i (a.to - c.loop-i.i) c.loop-i.invariant.1 (omega arith))

pub overflow_add-xs : goal.overflow_add-xs
overflow_add-xs c =
    let a = c.args in
    let b : c.x_bit-x_set.result < 2 = rw c.x_bit-x_set.ensures (bit-lt _ _) in
    omega (arith, packed-room (x_bit a.rows.now a.q) (λ r. bit-lt a.q (x_at a.rows.now r)) c.loop-i.i (a.to - c.loop-i.i) c.loop-i.invariant.1 (omega arith))

pub overflow_mul-zs : goal.overflow_mul-zs
overflow_mul-zs c =
    let a = c.args in
    omega (arith, packed-room (z_bit a.rows.now a.q) (λ r. bit-lt a.q (z_at a.rows.now r)) c.loop-i.i (a.to - c.loop-i.i) c.loop-i.invariant.2 (omega arith))

pub overflow_add-zs : goal.overflow_add-zs
overflow_add-zs c =
    let a = c.args in
    let b : c.z_bit-z_set.result < 2 = rw c.z_bit-z_set.ensures (bit-lt _ _) in
    omega (arith, packed-room (z_bit a.rows.now a.q) (λ r. bit-lt a.q (z_at a.rows.now r)) c.loop-i.i (a.to - c.loop-i.i) c.loop-i.invariant.2 (omega arith))

pub loop-i-preserved : goal.loop-i-preserved
loop-i-preserved c =
    let l = c.loop-i in
    let x = c.x_bit-x_set.ensures in
    let z = c.z_bit-z_set.ensures in (
      omega arith,
      packed-down _ l.i _ (omega arith) (omega arith) l.invariant.1 x,
      packed-down _ l.i _ (omega arith) (omega arith) l.invariant.2 z,
      λ s k.
          let mask = k.each (l.i - 1) (omega arith) in (
            sum-down _ _ l.i l.x (omega arith) (l.invariant.3 s k).0 (c.times_bit-x.ensures ∙ ap₂ if_set x mask),
            sum-down _ _ l.i l.z (omega arith) (l.invariant.3 s k).1 (c.times_bit-z.ensures ∙ ap₂ if_set z mask),
          ),
    )
