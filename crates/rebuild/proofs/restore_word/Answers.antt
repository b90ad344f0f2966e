use Rattle.std.proofs.Common.{◌≡◌, ℕ, get_or, ap, ◌∙◌, arith}
use Rattle.model.specs.Entries.{listed}
use Rattle.entries.proofs.Slots.{limits, slots_end, slot-end, part_length}
use Rattle.entries.proofs.Turns.{changed_below, begin, turn}
use Rattle.rebuild.specs.Saved.{with_word}
use Rattle.rebuild.proofs.Restored.{below_by}
use Rattle.rebuild.proofs.restore_word.Goals as goal

pub entry_len-len-requires : goal.entry_len-len-requires
entry_len-len-requires c = limits _ _ c.requires.0

pub loop-i-init : goal.loop-i-init
loop-i-init c = λ n l h. begin _ _ _ _ h

pub overflow_mul-at : goal.overflow_mul-at
overflow_mul-at c = omega (arith, slot-end c.args.size c.entry_len-len.result _ c.args.count c.requires.0 c.entry_len-len.ensures c.requires.1 c.loop-i.i c.loop-i-test.true)

pub bounds-saved-i : goal.bounds-saved-i
bounds-saved-i c = omega (arith, c.requires.0.capacity.high, c.requires.1)

pub put_word-requires : goal.put_word-requires
put_word-requires c =
    let b = c.args in
    let n = c.entry_len-len in
    (part_length b.size n.result n.ensures c.loop-i.i b.count c.loop-i.store (omega (arith, slots_end b.size n.result _ b.count c.requires.0 n.ensures c.requires.1)) c.loop-i-test.true, c.requires.2)

pub loop-i-preserved : goal.loop-i-preserved
loop-i-preserved c = λ n m h.
    turn c.args.size n _ c.args.store.now c.entry_len-len.result c.entry_len-len.ensures c.loop-i.i c.loop-i.store _ (omega (arith, c.loop-i-test.true)) (c.loop-i.invariant n m h) c.put_word.ensures

pub returns : goal.returns
returns c = λ n m h.
    let l = c.loop-i in
    let a = c.args in
    let es = listed a.size n a.store.now in
    let d = l.invariant n m h in
    let e : l.i ≡ a.count = omega arith in
    (d.packed, d.entries ∙ ap (λ (k : ℕ). changed_below (λ i. with_word a.j (get_or a.saved.now i 0)) k es) e ∙ below_by (with_word a.j) a.count a.saved.now es (omega (arith, c.requires.3, c.requires.0.capacity.high, c.requires.1)))
