use mathlib.Core.Path.{ap}
use Prim.Native.Nat.{◌≤◌}
use native.Mathlib.Nat.{zero-add, suc-mul}
use native.Mathlib.Omega.{arith}
use lib.ListN.{length}
use Rattle.model.specs.Entries.{entry_len}
use Rattle.model.proofs.Groups.{stride-le}
use Rattle.sheet.specs.Text.{entries_text}
use Rattle.sheet.proofs.Text.{text-end, length-next, ready, taken-long, taken-counted, taken-bytes}
use Rattle.sheet.proofs.entries_text_len.Goals as goal

pub entry_len-len-requires : goal.entry_len-len-requires
entry_len-len-requires c = (ready _ _ _ c.requires).0

pub loop-i-init : goal.loop-i-init
unfolding entries_text
loop-i-init c = (omega arith, zero-add _)

pub stretch-e-requires : goal.stretch-e-requires
stretch-e-requires c =
    let a = c.args in
    rw c.entry_len-len.ensures (omega (arith, stride-le (entry_len a.size) c.loop-i.i _ c.loop-i-test.true, (ready _ _ _ c.requires).2))

pub bounds-e-4 : goal.bounds-e-4
bounds-e-4 c =
    let a = c.args in
    let l = c.loop-i in
    omega (arith, taken-long a.size a.count a.store.now c.requires l.i c.loop-i-test.true c.entry_len-len.result c.entry_len-len.ensures c.stretch-e.result.now c.stretch-e.ensures)

pub entry_text_len-bytes-requires : goal.entry_text_len-bytes-requires
entry_text_len-bytes-requires c =
    let a = c.args in
    let l = c.loop-i in
    ((ready _ _ _ c.requires).0, taken-counted a.size a.count a.store.now c.requires l.i c.loop-i-test.true c.entry_len-len.result c.entry_len-len.ensures c.stretch-e.result.now c.stretch-e.ensures)

pub overflow_add-bytes : goal.overflow_add-bytes
overflow_add-bytes c =
    let a = c.args in
    let l = c.loop-i in
    omega (arith, c.entry_text_len-bytes.ensures, taken-counted a.size a.count a.store.now c.requires l.i c.loop-i-test.true c.entry_len-len.result c.entry_len-len.ensures c.stretch-e.result.now c.stretch-e.ensures, (ready _ _ _ c.requires).0, (ready _ _ _ c.requires).1)

pub loop-i-preserved : goal.loop-i-preserved
loop-i-preserved c =
    let a = c.args in
    let l = c.loop-i in
    let few : c.entry_text_len-bytes.result ≤ 12352 = omega (arith, c.entry_text_len-bytes.ensures, taken-counted a.size a.count a.store.now c.requires l.i c.loop-i-test.true c.entry_len-len.result c.entry_len-len.ensures c.stretch-e.result.now c.stretch-e.ensures, (ready _ _ _ c.requires).0) in
    (omega (arith, few, suc-mul l.i 12352), omega (arith, taken-bytes a.size a.count a.store.now c.requires l.i c.loop-i-test.true c.entry_len-len.result c.entry_len-len.ensures c.stretch-e.result.now c.stretch-e.ensures _ c.entry_text_len-bytes.ensures, l.invariant.1, length-next a.size a.count a.store.now l.i c.loop-i-test.true))

pub returns : goal.returns
returns c =
    let l = c.loop-i in (
      omega (arith, l.invariant.1, ap length (text-end c.args.size c.args.count c.args.store.now l.i (omega arith))),
      omega (arith, l.invariant.0, (ready _ _ _ c.requires).1),
    )
