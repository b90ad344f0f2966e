-- The first branches of the parent are merged, and the keys noted.
use mathlib.Core.List.{[]}
use Rattle.seeking.specs.Noted.{seen_at, Noted}
use Rattle.merging.specs.Progress.{Went}
use Rattle.spread.specs.Branches.{parent_at, branches_below}
use Rattle.spread.proofs.merge_arms.Given as goal

abbrev pub invariant-loop-a : goal.invariant-loop-a
invariant-loop-a l =
    Went l.limits.size l.limits.threshold l.limits.cutoff (branches_below l.limits.size l.limits.threshold l.arms l.a (parent_at l.limits.size l.initial.store l.parent.place l.parent.weight)) l.initial.q l.initial.store l.q l.store
    × Noted l.q.count (seen_at l.limits.size [] l.store) l.keys l.firsts
