use mathlib.Core.Path.{◌≡◌, ◌∙◌}
use Prim.Native.Nat.{suc, ◌-◌}
use native.Mathlib.Omega.{arith}
use borrow.Author.Tests.{eq-eqb, ne_eqb}
use Rattle.places.proofs.Walked.{tested, none-walked, one_kept, one_left, all-walked}
use Rattle.places.proofs.leave.Goals as goal

pub loop-i-init : goal.loop-i-init
loop-i-init c =
    let a = c.args in
    let p = c.requires in
    none-walked a.size a.count a.q a.store.now a.order.now a.left.now (omega (arith, p.0.room, p.0.sized.capacity.high)) p.2 p.3 p.4

pub loop-i-preserved-then-store-i-eq1 : goal.loop-i-preserved-then-store-i-eq1
loop-i-preserved-then-store-i-eq1 c =
    let a = c.args in
    let l = c.loop-i in
    let f : l.stay ≡ suc (l.stay - 1) = omega arith in
    one_left a.size a.count a.q a.store.now l.out l.order l.left l.i l.stay (l.i - 1) (l.stay - 1) (omega arith) f l.invariant
    (tested a.size a.q _ (l.i - 1) a.store.now c.entry_len-len.ensures ∙ eq-eqb _ 1 c.if-store-i-eq1.true)

pub loop-i-preserved : goal.loop-i-preserved
loop-i-preserved c =
    let a = c.args in
    let l = c.loop-i in
    one_kept a.size a.count a.q a.store.now l.out l.order l.left l.i l.stay (l.i - 1) (omega arith) l.invariant
    (tested a.size a.q _ (l.i - 1) a.store.now c.entry_len-len.ensures ∙ ne_eqb _ 1 c.if-store-i-eq1.false)

pub returns : goal.returns
returns c =
    let a = c.args in
    let l = c.loop-i in
    all-walked a.size a.count a.q a.store.now l.out l.order l.left l.i l.stay (omega arith) l.invariant
