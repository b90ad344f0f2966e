use mathlib.Core.Path.{◌≡◌, refl}
use Prim.Native.Nat.{◌-◌, ◌<◌}
use native.Mathlib.Nat.{le_refl}
use native.Mathlib.Omega.{arith}
use lib.ListN.{get_or}
use Rattle.model.specs.Entries.{entry_len}
use Rattle.model.proofs.Groups.{stride-le}
use Rattle.model.proofs.Packed.{within}
use Rattle.seeking.proofs.Noting.{packed-within}
use Rattle.places.proofs.Arranged.{at_most}
use Rattle.reset.proofs.Brings.{picked-in, none-brought, few-there, room-there, few-tested, one-brought, all-brought}
use Rattle.reset.proofs.Returning.{weight-word}
use Rattle.reset.proofs.bring_all_back.Goals as goal

pub note_all-requires : goal.note_all-requires
note_all-requires c =
    let p = c.requires.packed in
    let b = at_most p.0 in
    (packed-within p.0, omega (arith, p.1, b), picked-in p.0 (omega (arith, p.1, p.2, b)) p.4, refl, refl)

pub loop-j-init : goal.loop-j-init
loop-j-init c =
    let a = c.args in
    let m = a.limits in
    let p = c.requires.packed in
    rw c.start-p.ensures (none-brought m.size m.threshold m.cutoff a.q a.stay a.total a.order.now a.left.now a.store.now _ _ p.0 p.2 p.4 p.6 c.note_all.ensures)

pub bounds-store-place : goal.bounds-store-place
bounds-store-place c =
    let a = c.args in
    let l = c.loop-j in
    let size = a.limits.size in
    rw c.entry_len.ensures (omega (arith, stride-le (entry_len size) (get_or a.left.now l.j 0) a.total (c.requires.packed.5.below l.j c.loop-j-test.true), within size a.total l.store l.invariant.packed))

pub bring_back-settled-requires : goal.bring_back-settled-requires
bring_back-settled-requires c =
    let p = c.requires.packed in
    let q = c.requires.few_coefficients in
    let l = c.loop-j in
    let h = c.loop-j-test.true in
    let t = l.invariant in
    record {
      packed = (t.packed, t.long, t.once, t.noted, room-there _ _ _ _ _ _ _ _ _ p.3 p.5 _ _ _ _ _ _ t h, p.5.below l.j h, λ u g. t.apart u l.j g (le_refl l.j) h);
      place_bound = (few-there _ _ _ _ _ _ _ _ _ p.3 p.5 _ _ _ _ _ _ t h q.0, q.1);
    }

pub counted-p-requires : goal.counted-p-requires
counted-p-requires c =
    let p = c.requires.packed in
    let l = c.loop-j in
    let h = c.loop-j-test.true in
    let t = l.invariant in
    let some = few-tested _ _ _ _ _ _ _ _ _ p.3 p.5 _ _ _ _ _ _ t h _ _ _ _ _ c.bring_back-settled.ensures in
    let low : l.j < 256 = omega (arith, h, at_most t.packed) in
    (record { settled = omega (arith, t.light.settled, low); compared = omega (arith, t.light.compared, low) }, some, omega (arith, t.few, h, p.1, at_most t.packed))

pub loop-j-preserved : goal.loop-j-preserved
loop-j-preserved c =
    let p = c.requires.packed in
    one-brought _ _ _ _ _ _ _ _ _ p.3 p.5 _ _ _ _ _ _ c.loop-j.invariant c.loop-j-test.true _ _ _ _ _ c.bring_back-settled.ensures _ (weight-word _ _ _ _ c.entry_len.ensures) _ c.counted-p.ensures

pub returns : goal.returns
returns c =
    let l = c.loop-j in
    let a = c.args in
    let p = c.requires.packed in
    let e : l.j ≡ a.total - a.stay = omega arith in
    all-brought _ _ _ _ _ _ _ _ _ p.3 p.1 _ _ _ _ _ (rw e at l.invariant)
