-- By the branch's fate.
use mathlib.Core.Path.{refl, ap, ◌∙◌}
use native.Mathlib.Omega.{arith}
use Rattle.model.specs.Store.{reweighed}
use Rattle.merging.specs.Progress.{branch_in}
use Rattle.merging.specs.declared.Progress.{Progress}
use Rattle.merging.proofs.Went.{one-branch, left_alone, few-tested, count-after}
use Rattle.merging.proofs.merge_changed.Goals as goal

pub returns-then-p : goal.returns-then-p
returns-then-p c =
    let a = c.args in
    let p = c.requires.packed in
    (left_alone a.limits.size a.limits.threshold a.limits.cutoff (branch_in a.limits.size a.store.now a.branch) a.p a.store.now p.0 c.if-p.true, p.1)

pub counted-requires : goal.counted-requires
counted-requires c =
    let a = c.args in
    let p = c.requires.packed in
    let m = c.merge_one_changed-settled in
    (c.requires.changes.1, few-tested a.limits.size a.limits.threshold a.limits.cutoff (branch_in a.limits.size a.store.now a.branch) a.p a.store.now _ m.result p.0 c.if-p.false m.ensures.0, omega (arith, p.0.room, p.0.sized.capacity.high))

pub returns : goal.returns
unfolding reweighed
returns c =
    let a = c.args in
    let p = c.requires.packed in
    let m = c.merge_one_changed-settled in
    let b = branch_in a.limits.size a.store.now a.branch in (
      rw c.counted.ensures (one-branch a.limits.size a.limits.threshold a.limits.cutoff b a.p a.store.now _ m.result p.0 c.if-p.false m.ensures.0 m.result.fate refl),
      rw (ap (λ (q : Progress). q.count) c.counted.ensures ∙ count-after m.result.fate a.p m.result.compared a.branch.weight) m.ensures.1,
    )
