use mathlib.Core.Path.{◌≡◌, ap, ◌∙◌}
use Prim.Native.Nat.{ℕ}
use native.Mathlib.Omega.{arith}
use Rattle.model.specs.Entries.{listed}
use Rattle.model.proofs.Entries.{length-listed}
use Rattle.entries.proofs.Turns.{changed_below, begin, turn, below_all}
use Rattle.spread.specs.Branches.{scaled_by}
use Rattle.spread.proofs.scale_parents.Goals as goal

pub loop-i-init : goal.loop-i-init
loop-i-init c = begin _ _ _ _ c.requires.0

pub loop-i-preserved : goal.loop-i-preserved
loop-i-preserved c =
    let l = c.loop-i in
    let a = c.args in
    turn a.size a.count _ a.store.now c.entry_len-len.result c.entry_len-len.ensures l.i l.store _ c.loop-i-test.true l.invariant c.scale_entry.ensures

pub returns : goal.returns
returns c =
    let l = c.loop-i in
    let a = c.args in
    let es = listed a.size a.count a.store.now in
    let e : l.i ≡ a.count = omega arith in
    (l.invariant.packed, l.invariant.entries ∙ ap (λ (k : ℕ). changed_below (λ m. scaled_by a.shape a.keep) k es) e ∙ below_all (scaled_by a.shape a.keep) a.count es (omega (arith, length-listed a.size a.count a.store.now)))
