-- The branches of the first i parents are merged, the keys noted, and the tables at hand those of parents that were passed.
use Rattle.std.proofs.Common.{[]}
use Rattle.seeking.specs.Noted.{seen_at, Noted}
use Rattle.merging.specs.Progress.{Went, started}
use Rattle.spread.specs.Branches.{TablesUpTo, branches_up_to}
use Rattle.spread.proofs.merge_parents.Given as goal

abbrev pub invariant-loop-i : goal.invariant-loop-i
invariant-loop-i l =
    Went l.limits.size l.limits.threshold l.limits.cutoff (branches_up_to l.limits.size l.limits.threshold l.arms l.saved l.initial.store l.i) (started l.count) l.initial.store l.q l.store
    × Noted l.q.count (seen_at l.limits.size [] l.store) l.keys l.firsts
    × TablesUpTo l.limits.size l.arms.shape l.i l.initial.store l.last × TablesUpTo l.limits.size l.arms.shape l.i l.initial.store l.before
