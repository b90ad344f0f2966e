-- The rows passed are the same, whatever mutation the change is of.
use mathlib.Core.Path.{◌≡◌}
use mathlib.Core.Bool.{true}
use Prim.Native.Nat.{◌≤◌, ◌+◌, ◌-◌, ◌*◌}
use lib.ListN.{drop}
use Rattle.model.specs.Lists.{all_below}
use Rattle.model.specs.Entries.{head_len, coefs_len, body_in}
use Rattle.model.specs.Keys.{usual_salts}
use Rattle.model.specs.declared.BranchMutation.{BranchMutation}
use Rattle.changes.specs.Changes.{change_of}
use Rattle.likeness.proofs.Alike.{same_at}
use Rattle.seeking.proofs.Rows.{changed, PartAt}
use Rattle.seeking.proofs.rows_same.Given as goal

abbrev pub invariant-loop-r : goal.invariant-loop-r
invariant-loop-r l =
    (l.r ≤ 2 * l.size.n) × PartAt l.size.n l.r
    × ((m : BranchMutation) → l.c ≡ change_of usual_salts l.size.n m (body_in l.size l.parent).rows
    → all_below (same_at (drop (head_len + coefs_len l.size) l.e) (changed l.size m l.parent).rows) (3 * l.r) ≡ true)

abbrev pub decreases-loop-r : goal.decreases-loop-r
decreases-loop-r l = 2 * l.size.n - l.r
