use mathlib.Core.Path.{refl}
use Prim.Native.Nat.{◌<◌}
use native.Mathlib.Omega.{arith}
use Rattle.spread.proofs.Parents.{qubits-below, no-branch, branch-merged, change-now, light, as_before}
use Rattle.spread.proofs.merge_arms.Goals as goal

pub loop-a-init : goal.loop-a-init
loop-a-init c =
    let a = c.args in
    let m = a.limits in
    let p = c.requires.packed in
    (no-branch m.size m.threshold m.cutoff a.arms a.parent.place a.parent.weight a.p a.store.now p.2 p.0, p.1)

pub merge_changed-q-requires-clause-packed : goal.merge_changed-q-requires-clause-packed
merge_changed-q-requires-clause-packed c =
    let a = c.args in
    let m = a.limits in
    let p = c.requires.packed in
    let l = c.loop-a in
    let t = l.invariant.0 in
    (t.packed, l.invariant.1, omega (arith, t.grows, p.2), as_before m.size m.threshold m.cutoff a.arms a.parent.place a.parent.weight a.p a.store.now p.2 l.a l.q l.store p.3 t)

pub merge_changed-q-requires-clause-changes : goal.merge_changed-q-requires-clause-changes
merge_changed-q-requires-clause-changes c =
    let a = c.args in
    let m = a.limits in
    let i = a.parent.place in
    let old = a.parent.weight in
    let p = c.requires.packed in
    let r = c.requires.tables_of in
    let l = c.loop-a in
    let t = l.invariant.0 in
    let few : l.a < 15 = omega arith in (
      record {
        few = few;
        below = qubits-below 64 a.arms.shape l.a r.1;
        change = change-now m.size m.threshold m.cutoff a.arms i old a.p a.store.now p.2 l.a l.q l.store few t r.0.first r.0.second c.change_at.ensures;
      },
      light m.size m.threshold m.cutoff a.arms i old a.p a.store.now p.2 l.a l.q l.store r.3 (omega arith) (omega (arith, p.2, p.0.room, p.0.sized.capacity.high)) t,
    )

pub loop-a-preserved : goal.loop-a-preserved
loop-a-preserved c =
    let a = c.args in
    let l = c.loop-a in
    let m = c.merge_changed-q in (
      branch-merged a.limits.size a.limits.threshold a.limits.cutoff a.arms a.parent.place a.parent.weight a.p a.store.now c.requires.packed.2 l.a l.q m.result l.store _ c.float_of-weight.ensures refl c.bits_of.ensures l.invariant.0 m.ensures.0,
      m.ensures.1,
    )
