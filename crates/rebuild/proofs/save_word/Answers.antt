use Rattle.std.proofs.Common.{◌≡◌, ℕ, take, sym, ap, ap₂, ◌∙◌, arith, length-set}
use Rattle.model.proofs.Packed.{within}
use Rattle.entries.proofs.Slots.{limits, slot-end}
use Rattle.rebuild.proofs.Words.{column, column-none, column-next, column-listed}
use Rattle.rebuild.proofs.save_word.Goals as goal

pub entry_len-len-requires : goal.entry_len-len-requires
entry_len-len-requires c = limits _ _ c.requires.0.sized

pub loop-i-init : goal.loop-i-init
loop-i-init c = (c.requires.2, column-none _ _ _ c.args.saved.now)

pub overflow_mul-saved : goal.overflow_mul-saved
overflow_mul-saved c = omega (arith, slot-end c.args.size c.entry_len-len.result _ c.args.count c.requires.0.sized c.entry_len-len.ensures c.requires.0.room c.loop-i.i c.loop-i-test.true)

pub overflow_add-saved : goal.overflow_add-saved
overflow_add-saved c = omega (arith, slot-end c.args.size c.entry_len-len.result _ c.args.count c.requires.0.sized c.entry_len-len.ensures c.requires.0.room c.loop-i.i c.loop-i-test.true, c.entry_len-len.ensures, c.requires.1)

pub offset_bounds-store-i : goal.offset_bounds-store-i
offset_bounds-store-i c = omega (arith, slot-end c.args.size c.entry_len-len.result _ c.args.count c.requires.0.sized c.entry_len-len.ensures c.requires.0.room c.loop-i.i c.loop-i-test.true, c.entry_len-len.ensures, c.requires.1)

pub bounds-store-i : goal.bounds-store-i
bounds-store-i c = omega (arith, slot-end c.args.size c.entry_len-len.result _ c.args.count c.requires.0.sized c.entry_len-len.ensures c.requires.0.room c.loop-i.i c.loop-i-test.true, c.entry_len-len.ensures, c.requires.1)

pub bounds-saved-i : goal.bounds-saved-i
bounds-saved-i c = omega (arith, c.requires.0.sized.capacity.high, c.requires.0.room)

pub loop-i-preserved : goal.loop-i-preserved
loop-i-preserved c =
    let l = c.loop-i in
    let b = c.args in
    (simp length-set l.invariant.0, column-next b.j c.entry_len-len.result l.i b.store.now l.saved (omega (arith, c.requires.0.sized.capacity.high, c.requires.0.room)) (omega (arith, c.entry_len-len.ensures, c.requires.1)) l.invariant.1)

pub returns : goal.returns
returns c =
    let l = c.loop-i in
    let b = c.args in
    let e : l.i ≡ b.count = omega arith in (
      l.invariant.0,
      ap (λ (k : ℕ). take k l.saved) (sym e)
          ∙ l.invariant.1
          ∙ ap₂ (λ (len k : ℕ). column b.j len k b.store.now) c.entry_len-len.ensures e
          ∙ column-listed b.size b.j b.count b.store.now (within b.size b.count b.store.now c.requires.0),
    )
