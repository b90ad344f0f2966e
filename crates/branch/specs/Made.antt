-- The branch that `make_branch` makes. Assumes nothing.
use Rattle.std.specs.Prelude.{ℕ, List}
use Rattle.model.specs.Entries.{Keyed, entry_of}
use Rattle.model.specs.Keys.{usual_salts}
use Rattle.model.specs.Changes.{changed_keyed}
use Rattle.model.specs.Store.{keyed_weighed, reweighed}
use Rattle.model.specs.declared.BranchMutation.{BranchMutation}
use Rattle.model.specs.declared.Size.{Size}

-- of the entry that these words hold, with this weight
abbrev pub made_branch : Size → BranchMutation → ℕ → List ℕ → Keyed
made_branch s m weight parent = reweighed keyed_weighed weight (changed_keyed usual_salts s.n m (entry_of s parent))
