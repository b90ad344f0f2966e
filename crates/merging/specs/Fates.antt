-- What merging one branch promises, by what becomes of it. Assumes nothing.
use Rattle.std.specs.Prelude.{ℕ, ◌+◌, ◌≡◌, List, [], ◌∷◌, ◌++◌, Float, length, Option}
use Rattle.model.specs.Entries.{Keyed, listed}
use Rattle.model.specs.Store.{Tally, no_loss, with_dropped, keyed_weighed, weight_of, begun, walk, settled, merge, above_cutoff}
use Rattle.model.specs.Calls.{engine}
use Rattle.model.specs.declared.Size.{Size}
use Rattle.model.specs.Sound.{Packed}
use Rattle.merging.specs.declared.Fate.{Fate}
use Rattle.merging.specs.declared.Fate.TheVariants.{Merged, Stored, Dropped, NoRoom}
use Rattle.merging.specs.declared.Settled.{Settled}

-- the entries that are listed after a branch's fate, of `count` before
unfoldable pub count_by : Fate → ℕ → ℕ
count_by Merged count = count
count_by Stored count = count + 1
count_by Dropped count = count
count_by NoRoom count = count

-- the tally of the branch b, when es is listed: for want of room the branch is not in the list
unfoldable pub tally_by : Fate → Keyed → List Keyed → Tally Keyed
tally_by Merged b es = record { entries = es; merged = 1; stored = 0; dropped = 0; lost = no_loss }
tally_by Stored b es = record { entries = es; merged = 0; stored = 1; dropped = 0; lost = no_loss }
tally_by Dropped b es = record { entries = es; merged = 0; stored = 0; dropped = 1; lost = with_dropped no_loss (weight_of keyed_weighed b) }
tally_by NoRoom b es = record { entries = es ++ b ∷ []; merged = 0; stored = 1; dropped = 0; lost = no_loss }

-- the branch b, which a search found so, was settled among the `count` entries that w holds, which left w'
pub record SettledBy (s : Size) (count : ℕ) (cutoff : Float) (b : Keyed) (f : Option ℕ) (w w' : List ℕ) (fate : Fate) : Type 0 where
  pub packed : Packed s (count_by fate count) w'
  pub tally : settled keyed_weighed (above_cutoff cutoff) b (begun (listed s count w)) f ≡ tally_by fate b (listed s (count_by fate count) w')
  -- with no room nothing is changed
  pub unchanged : fate ≡ NoRoom → w' ≡ w
  pub full : fate ≡ NoRoom → count ≡ s.capacity

-- the branch b was merged into the `count` entries that w holds, which left w'
pub record MergedBy (s : Size) (count : ℕ) (threshold cutoff : Float) (b : Keyed) (w w' : List ℕ) (r : Settled) : Type 0 where
  pub tested : r.compared ≡ length (walk s threshold b 0 (listed s count w)).tested
  pub packed : Packed s (count_by r.fate count) w'
  pub tally : merge (engine s threshold) (above_cutoff cutoff) b (begun (listed s count w)) ≡ tally_by r.fate b (listed s (count_by r.fate count) w')
  -- with no room nothing is changed
  pub unchanged : r.fate ≡ NoRoom → w' ≡ w
  pub full : r.fate ≡ NoRoom → count ≡ s.capacity
