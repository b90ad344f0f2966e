use mathlib.Core.Path.{◌≡◌, refl, sym, ap, ◌∙◌}
use mathlib.Core.List.{List, [], ◌++◌, append-nil}
use Prim.Native.Nat.{ℕ, ◌+◌, ◌-◌, ◌≤◌}
use native.Mathlib.Nat.{zero-add}
use native.Mathlib.Omega.{arith}
use lib.ListN.{length, take}
use lib.Seq.{take_all}
use borrow.Rule.Slice.PartMut.{mid_len}
use Rattle.model.specs.Entries.{strip, entry_of, stretch, entry_len}
use Rattle.sheet.specs.Text.{entry_text, entries_text}
use Rattle.model.proofs.Groups.{stride-le}
use Rattle.sheet.proofs.Written.{wrote, wrote-length, next-piece}
use Rattle.sheet.proofs.Text.{text-left, text-end, text-next, length-next, ready, taken, taken-long, taken-counted, taken-bytes}
use Rattle.sheet.proofs.put_entries.Goals as goal

pub loop-i-init : goal.loop-i-init
unfolding entries_text
loop-i-init c = (refl, zero-add _ ∙ sym c.requires.out_len, refl)

pub stretch-e-requires : goal.stretch-e-requires
stretch-e-requires c =
    rw c.entry_len-len.ensures (omega (arith, stride-le (entry_len c.args.size) c.loop-i.i _ c.loop-i-test.true, (ready _ _ _ c.requires.sound).2))

pub bounds-e-4 : goal.bounds-e-4
bounds-e-4 c =
    let a = c.args in
    let l = c.loop-i in
    omega (arith, taken-long a.size a.count a.store.now c.requires.sound l.i c.loop-i-test.true c.entry_len-len.result c.entry_len-len.ensures c.stretch-e.result.now c.stretch-e.ensures)

pub entry_text_len-requires : goal.entry_text_len-requires
entry_text_len-requires c =
    let a = c.args in
    let l = c.loop-i in
    ((ready _ _ _ c.requires.sound).0, taken-counted a.size a.count a.store.now c.requires.sound l.i c.loop-i-test.true c.entry_len-len.result c.entry_len-len.ensures c.stretch-e.result.now c.stretch-e.ensures)

pub overflow_add-end : goal.overflow_add-end
overflow_add-end c =
    let a = c.args in
    let l = c.loop-i in
    omega (arith, taken-bytes a.size a.count a.store.now c.requires.sound l.i c.loop-i-test.true c.entry_len-len.result c.entry_len-len.ensures c.stretch-e.result.now c.stretch-e.ensures _ c.entry_text_len.ensures, l.invariant.1, length-next a.size a.count a.store.now l.i c.loop-i-test.true)

pub slice_bounds-put_entry-end : goal.slice_bounds-put_entry-end
slice_bounds-put_entry-end c =
    let a = c.args in
    let l = c.loop-i in
    omega (arith, taken-bytes a.size a.count a.store.now c.requires.sound l.i c.loop-i-test.true c.entry_len-len.result c.entry_len-len.ensures c.stretch-e.result.now c.stretch-e.ensures _ c.entry_text_len.ensures, l.invariant.0, l.invariant.1, length-next a.size a.count a.store.now l.i c.loop-i-test.true)

pub put_entry-requires : goal.put_entry-requires
put_entry-requires c =
    let a = c.args in
    let l = c.loop-i in
    let within : l.at + c.entry_text_len.result ≤ length l.out = omega (arith, taken-bytes a.size a.count a.store.now c.requires.sound l.i c.loop-i-test.true c.entry_len-len.result c.entry_len-len.ensures c.stretch-e.result.now c.stretch-e.ensures _ c.entry_text_len.ensures, l.invariant.0, l.invariant.1, length-next a.size a.count a.store.now l.i c.loop-i-test.true) in
    record {
      within = ((ready _ _ _ c.requires.sound).0, taken-long a.size a.count a.store.now c.requires.sound l.i c.loop-i-test.true c.entry_len-len.result c.entry_len-len.ensures c.stretch-e.result.now c.stretch-e.ensures, taken-counted a.size a.count a.store.now c.requires.sound l.i c.loop-i-test.true c.entry_len-len.result c.entry_len-len.ensures c.stretch-e.result.now c.stretch-e.ensures);
      out_len = mid_len l.at _ l.out within ∙ (omega (arith, c.entry_text_len.ensures));
    }

pub loop-i-preserved : goal.loop-i-preserved
loop-i-preserved c =
    let a = c.args in
    let l = c.loop-i in
    let bytes : c.entry_text_len.result ≡ length (entry_text a.size.n (strip (entry_of a.size (stretch a.size a.store.now l.i)))) = taken-bytes a.size a.count a.store.now c.requires.sound l.i c.loop-i-test.true c.entry_len-len.result c.entry_len-len.ensures c.stretch-e.result.now c.stretch-e.ensures _ c.entry_text_len.ensures in
    let next = length-next a.size a.count a.store.now l.i c.loop-i-test.true in
    let x = c.put_entry.new.out in
    let end = l.at + c.entry_text_len.result in
    let w : end ≤ length l.out = omega (arith, bytes, l.invariant.0, l.invariant.1, next) in
    let done : x ≡ entry_text a.size.n (strip (entry_of a.size (stretch a.size a.store.now l.i))) = c.put_entry.ensures ∙ ap (λ (v : List ℕ). entry_text a.size.n (strip (entry_of a.size v))) (taken a.size a.count a.store.now c.requires.sound l.i c.loop-i-test.true c.entry_len-len.result c.entry_len-len.ensures c.stretch-e.result.now c.stretch-e.ensures) in
    let size : length x ≡ end - l.at = c.put_entry.auto.out ∙ mid_len l.at end l.out w in (
      wrote-length l.at end l.out x w size ∙ l.invariant.0,
      omega (arith, bytes, l.invariant.1, next),
      next-piece (take l.at l.out) (take end _) x (text-left a.size a.count a.store.now l.i) (text-left a.size a.count a.store.now (l.i + 1))
          (wrote l.at end l.out x (omega arith) w size)
          (text-next a.size a.count a.store.now l.i c.loop-i-test.true ∙ ap (λ (y : List ℕ). y ++ text-left a.size a.count a.store.now (l.i + 1)) (sym done))
          l.invariant.2,
    )

pub returns : goal.returns
returns c =
    let l = c.loop-i in
    let e = text-end c.args.size c.args.count c.args.store.now l.i (omega arith) in
    let whole : length l.out ≤ l.at = omega (arith, l.invariant.0, l.invariant.1, ap length e) in
    sym (append-nil l.out)
    ∙ sym (ap (λ (t : List ℕ). t ++ []) (take_all l.at l.out whole))
    ∙ sym (ap (λ (r : List ℕ). take l.at l.out ++ r) e)
    ∙ l.invariant.2
