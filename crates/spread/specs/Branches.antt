-- The branches of the listed entries. Assumes nothing.
use Rattle.std.specs.Prelude.{ℕ, zero, suc, ◌≤◌, ◌≡◌, Bool, cond, List, [], ◌++◌, map, Float, get_or}
use Rattle.model.specs.Floats.{float, bits, times}
use Rattle.model.specs.Entries.{Keyed, entry_of, stretch}
use Rattle.model.specs.Keys.{all_live}
use Rattle.model.specs.Store.{keyed_weighed, reweighed}
use Rattle.model.specs.Channels.{branch_of}
use Rattle.model.specs.Calls.{engine}
use Rattle.model.specs.declared.Size.{Size}
use Rattle.arms.specs.Arms.{arms_below, shape_qubits}
use Rattle.arms.specs.declared.Arms.{Arms}
use Rattle.arms.specs.declared.Shape.{Shape}
use Rattle.changes.specs.Tables.{first_table, second_table}
use Rattle.spread.specs.declared.Tables.{Tables}

-- ---- the branches of one parent

-- the rows of the entry at place i
abbrev pub rows_at : Size → List ℕ → ℕ → List ℕ
rows_at s w i = (entry_of s (stretch s w i)).entry.body.rows

-- the tables of what they change of the parent e
pub record TablesOf (s : Size) (h : Shape) (e : Keyed) (t : Tables) : Type 0 where
  pub first : t.first ≡ first_table h s.n e.entry.body.rows
  pub second : t.second ≡ second_table h s.n e.entry.body.rows

-- .. of an entry at a place up to i, the one where they were made
pub record TablesUpTo (s : Size) (h : Shape) (i : ℕ) (w : List ℕ) (t : Tables) : Type 0 where
  pub low : t.place ≤ i
  pub tables : TablesOf s h (entry_of s (stretch s w t.place)) t

-- the parent that stands at place i, with the weight it had
abbrev pub parent_at : Size → List ℕ → ℕ → ℕ → Keyed
parent_at s w i old = reweighed keyed_weighed old (entry_of s (stretch s w i))

-- its first m branches
abbrev pub branches_below : Size → Float → Arms → ℕ → Keyed → List Keyed
branches_below s threshold r m x = map (branch_of (engine s threshold) x) (arms_below r m)

-- ---- parents

-- none of these qubits is lost
unfoldable pub live_at : Shape → ℕ → Bool
live_at h loss = all_live loss (shape_qubits h)

-- a live one's weight, times what is left of it
unfoldable pub scaled_by : Shape → Float → Keyed → Keyed
scaled_by h keep e = cond (live_at h e.entry.body.loss) (reweighed keyed_weighed (bits (times (float e.entry.weight) keep)) e) e

-- the branches of a parent: none, if it is not live
unfoldable pub branches_by : Size → Float → Arms → Keyed → List Keyed
branches_by s threshold r x = cond (live_at r.shape x.entry.body.loss) (branches_below s threshold r r.count x) []

-- the branches of the first m parents, in list order: those that stand in w, with the weights they had
unfoldable pub branches_up_to : Size → Float → Arms → (saved w : List ℕ) → ℕ → List Keyed
branches_up_to s threshold r saved w zero = []
branches_up_to s threshold r saved w (suc i) = branches_up_to s threshold r saved w i ++ branches_by s threshold r (parent_at s w i (get_or saved i 0))
