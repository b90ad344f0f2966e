use mathlib.Core.Path.{◌≡◌, sym, ap, ◌∙◌}
use Prim.Native.Nat.{ℕ, ◌≤◌, ◌<◌, ◌+◌, ◌*◌}
use native.Mathlib.Omega.{arith}
use Rattle.model.specs.Entries.{entry_len, entry_of, stretch}
use Rattle.model.proofs.Entries.{loss-word}
use Rattle.entries.proofs.Slots.{limits, slot-end}
use Rattle.changes.proofs.Tables.{few-walked}
use Rattle.spread.specs.Branches.{TablesOf, TablesUpTo, live_at}
use Rattle.spread.proofs.Parents.{none_done, parent-done, parent-lost, few-so-far, same_count, still-there, inside, made-here, up-to-next, shared-tables, tables-now, tables_then}
use Rattle.model.specs.declared.Size.{Size}
use Rattle.model.specs.Sound.{Sized}
use Rattle.spread.proofs.merge_parents.Goals.{then-is_live, else-is_live, then-not-same_at, else-not-same_at}
use Rattle.spread.proofs.merge_parents.Goals as goal

pub sign_masks-masks-requires : goal.sign_masks-masks-requires
sign_masks-masks-requires c = omega (arith, c.walked_rows.ensures, few-walked c.args.arms.shape c.args.limits.size.n, c.requires.packed.0.sized.qubits.high)

pub loop-i-init : goal.loop-i-init
loop-i-init c =
    let a = c.args in
    let m = a.limits in
    let q = c.start-q.ensures in
    let t = c.tables_of-last.ensures in
    let made = made-here m.size a.arms.shape a.store.now t.0 t.1 in (
      rw q (none_done m.size m.threshold m.cutoff a.arms a.saved.now a.store.now a.count c.requires.shape_below.1 c.requires.packed.0),
      rw q c.requires.packed.2,
      made,
      made,
    )

-- the entry at the loop's place lies in the store
lies : (s : Size) (len count words i : ℕ) → Sized s words → len ≡ entry_len s → count ≤ s.capacity → i < count → i * len + 5 ≤ words
lies s len count words i z e room h = omega (arith, e, slot-end s len _ count z e room i h)

pub bounds-store-i : goal.bounds-store-i
bounds-store-i c = omega (arith, lies _ _ _ _ c.loop-i.i c.requires.packed.0.sized c.entry_len-len.ensures c.requires.packed.0.room c.loop-i-test.true)

pub tables_at-found-requires : goal.tables_at-found-requires
tables_at-found-requires c =
    let m = c.args.limits in
    let l = c.loop-i in (
      limits _ _ l.invariant.0.packed.sized,
      inside m.size l.q.count l.i l.store l.invariant.0.packed (omega (arith, l.invariant.0.grows, c.loop-i-test.true)),
      c.requires.shape_below.0,
      rw (sym c.usual_salts.ensures, sym c.walked_rows.ensures) c.sign_masks-masks.ensures,
      tables-now m.size m.threshold m.cutoff l.i c.loop-i-test.true l.invariant.0 l.invariant.3,
    )

pub merge_arms-q-requires : goal.merge_arms-q-requires
merge_arms-q-requires c =
    let a = c.args in
    let m = a.limits in
    let l = c.loop-i in
    let h = c.loop-i-test.true in
    let t = l.invariant.0 in
    let last = tables-now m.size m.threshold m.cutoff l.i h t l.invariant.2 in
    let f : TablesOf m.size a.arms.shape (entry_of m.size (stretch m.size l.store l.i)) c.if-not-same_at.last =
    elim c.if-not-same_at.branch [
      | then-not-same_at w ↦ rw w.last-is w.tables_at-found.ensures.1
      | else-not-same_at w ↦ rw w.last-is (shared-tables m.size a.arms.shape (c.same_at.ensures w.if-not-same_at.false) last.tables)
    ] in
    record {
      packed = (t.packed, l.invariant.1, omega (arith, t.grows, h), omega (arith, c.requires.packed.1 l.i h, same_count _ _ (still-there m.size m.threshold m.cutoff l.i h t)));
      tables_of = (f, c.requires.shape_below.0, c.requires.shape_below.1, few-so-far m.size m.threshold m.cutoff a.arms a.saved.now a.store.now a.count c.requires.shape_below.1 l.i h l.q l.store t);
    }

pub loop-i-preserved : goal.loop-i-preserved
loop-i-preserved c =
    let a = c.args in
    let m = a.limits in
    let l = c.loop-i in
    let t = l.invariant.0 in
    let h = c.loop-i-test.true in
    let len = c.entry_len-len in
    let few = c.requires.shape_below.1 in
    let live = ap (live_at a.arms.shape) (sym (loss-word m.size len.result l.i l.store len.ensures)) ∙ sym c.is_live.ensures in
    let last = tables-now m.size m.threshold m.cutoff l.i h t l.invariant.2 in
    let before = tables-now m.size m.threshold m.cutoff l.i h t l.invariant.3 in
    elim c.if-is_live.branch [
      | then-is_live w ↦
          let g = w.merge_arms-q.ensures in
          let f : TablesUpTo m.size a.arms.shape l.i l.store w.if-not-same_at.last × TablesUpTo m.size a.arms.shape l.i l.store w.if-not-same_at.before =
          elim w.if-not-same_at.branch [
            | then-not-same_at v ↦ rw (v.last-is, v.before-is) (v.tables_at-found.ensures.0, last)
            | else-not-same_at v ↦ rw (v.last-is, v.before-is) (last, before)
          ] in (
            rw (w.store-is, w.q-is) (parent-done m.size m.threshold m.cutoff a.arms a.saved.now a.store.now a.count few l.i h l.q l.store t (live ∙ w.if-is_live.true) w.merge_arms-q.result _ g.0),
            rw (w.store-is, w.keys-is, w.firsts-is, w.q-is) g.1,
            rw w.last-is (up-to-next (tables_then m.size m.threshold m.cutoff l.i h t f.0)),
            rw w.before-is (up-to-next (tables_then m.size m.threshold m.cutoff l.i h t f.1)),
          )
      | else-is_live w ↦ (
        rw (w.store-is, w.q-is) (parent-lost m.size m.threshold m.cutoff a.arms a.saved.now a.store.now a.count few l.i h l.q l.store t (live ∙ w.if-is_live.false)),
        rw (w.store-is, w.keys-is, w.firsts-is, w.q-is) l.invariant.1,
        rw w.last-is (up-to-next l.invariant.2),
        rw w.before-is (up-to-next l.invariant.3),
      )
    ]

pub returns : goal.returns
returns c =
    let e : c.loop-i.i ≡ c.args.count = omega arith in
    rw e at c.loop-i.invariant.0
