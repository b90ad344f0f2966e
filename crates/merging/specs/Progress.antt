-- What merging some branches leaves. Assumes nothing.
use Rattle.std.specs.Prelude.{ℕ, ◌+◌, ◌*◌, ◌≤◌, ◌<◌, ◌≡◌, true, false, List, map, Float, length, take}
use Rattle.model.specs.Entries.{Keyed, entry_len, words_of, entry_of, stretch, listed, with_stretch}
use Rattle.model.specs.Keys.{usual_salts}
use Rattle.model.specs.Qubits.{QubitsBelow}
use Rattle.model.specs.Floats.{float, zero_bits, plus}
use Rattle.model.specs.Store.{Tally, keyed_weighed, reweighed, merge_all, tested_all, how_many, above_cutoff}
use Rattle.model.specs.Calls.{engine, header_with, answer_of}
use Rattle.model.specs.declared.BranchMutation.{BranchMutation}
use Rattle.model.specs.declared.Answer.{Answer}
use Rattle.model.specs.declared.Header.{Header}
use Rattle.model.specs.declared.Lost.{Lost}
use Rattle.model.specs.declared.Size.{Size}
use Rattle.model.specs.Sound.{Packed}
use Rattle.changes.specs.Changes.{change_of}
use Rattle.branch.specs.Made.{made_branch}
use Rattle.arms.specs.Arms.{mutation_at}
use Rattle.merging.specs.declared.Branch.{Branch}
use Rattle.merging.specs.declared.Fate.{Fate}
use Rattle.merging.specs.declared.Fate.TheVariants.{Merged, Stored, Dropped, NoRoom}
use Rattle.merging.specs.declared.Progress.{Progress}

-- ---- a branch that is not made yet

-- what it changes of its parent
abbrev pub mutation_of : Branch → BranchMutation
mutation_of b = mutation_at b.shape b.arm

-- the branch of an entry of the store w
abbrev pub branch_in : Size → (w : List ℕ) → Branch → Keyed
branch_in s w b = made_branch s (mutation_of b) b.weight (stretch s w b.parent)

-- its arm is one of 15, its qubits are numbers of bits in a word, and its change is its mutation's
pub record Changes (s : Size) (w : List ℕ) (b : Branch) : Type 0 where
  pub few : b.arm < 15
  pub below : QubitsBelow 64 (mutation_of b)
  pub change : b.change ≡ change_of usual_salts s.n (mutation_of b) (entry_of s (stretch s w b.parent)).entry.body.rows

-- the store with the branch made in its first free slot
abbrev pub appended : Size → (count : ℕ) → Branch → List ℕ → List ℕ
appended s count b w = with_stretch (entry_len s) count w (words_of (branch_in s w b))

-- ---- branches merged, one after the other

-- what was lost with them, and what truncating takes afterwards
abbrev pub lost_by : Progress → Float → Lost
lost_by p truncated = record { dropped = p.lost; truncated = truncated }

-- these entries, and what became of the branches
abbrev pub tallied_by : Progress → List Keyed → Tally Keyed
tallied_by p es = record { entries = es; merged = p.merged; stored = p.stored; dropped = p.dropped; lost = lost_by p (float zero_bits) }

-- the list so far, and what became of the branches
abbrev pub tally_of : Size → Progress → List ℕ → Tally Keyed
tally_of s p w = tallied_by p (listed s p.count w)

-- an entry with its weight set aside
abbrev pub unweighed : Keyed → Keyed
unweighed e = reweighed keyed_weighed 0 e

-- what m branches at most can have become: the counts are far from the largest number
pub record Light (m : ℕ) (p : Progress) : Type 0 where
  pub settled : p.merged + p.stored + p.dropped ≤ m
  pub compared : p.compared ≤ 256 * m

-- The branches bs were merged into what p and w say, which left p' and w'. Once one has found no room, the rest is left
pub record Went (s : Size) (threshold cutoff : Float) (bs : List Keyed) (p : Progress) (w : List ℕ) (p' : Progress) (w' : List ℕ) : Type 0 where
  pub packed : Packed s p'.count w'
  pub grows : p.count ≤ p'.count
  -- of the entries that were there only weights changed
  pub front : map unweighed (take p.count (listed s p'.count w')) ≡ map unweighed (listed s p.count w)
  pub stuck : p.full ≡ true → p'.full ≡ true
  pub tally : p'.full ≡ false → tally_of s p' w' ≡ merge_all (engine s threshold) (above_cutoff cutoff) bs (tally_of s p w)
  pub compared : p'.full ≡ false → p'.compared ≡ p.compared + how_many (tested_all usual_salts s threshold (above_cutoff cutoff) bs (tally_of s p w))
  -- one found no room: the list would hold more than capacity entries
  pub overflow : p.full ≡ false → p'.full ≡ true → s.capacity < length (merge_all (engine s threshold) (above_cutoff cutoff) bs (tally_of s p w)).entries
  -- few branches leave small counts
  pub few : p'.merged + p'.stored + p'.dropped ≤ p.merged + p.stored + p.dropped + length bs
  pub tested : p'.compared ≤ p.compared + 256 * length bs

-- one branch more, of weight w, which had this fate after k full comparisons: one that is stored is listed
unfoldable pub after : Fate → Progress → ℕ → ℕ → Progress
after Merged p k w =
    record { count = p.count; merged = p.merged + 1; stored = p.stored; dropped = p.dropped; compared = p.compared + k; lost = p.lost; full = p.full }
after Stored p k w =
    record { count = p.count + 1; merged = p.merged; stored = p.stored + 1; dropped = p.dropped; compared = p.compared + k; lost = p.lost; full = p.full }
after Dropped p k w =
    record {
      count = p.count;
      merged = p.merged;
      stored = p.stored;
      dropped = p.dropped + 1;
      compared = p.compared + k;
      lost = plus p.lost (float w);
      full = p.full;
    }
after NoRoom p k w =
    record { count = p.count; merged = p.merged; stored = p.stored; dropped = p.dropped; compared = p.compared + k; lost = p.lost; full = true }

-- no branch is merged yet
abbrev pub started : ℕ → Progress
started count = record { count = count; merged = 0; stored = 0; dropped = 0; compared = 0; lost = float zero_bits; full = false }

-- what a call answers that lists `count` entries, once its branches became what p counts and truncating took so much
abbrev pub answered : Header → (count : ℕ) → Progress → Float → Answer
answered h count p truncated =
    answer_of 0 (header_with h count false) (record { merged = p.merged; stored = p.stored; dropped = p.dropped; compared = p.compared })
    (lost_by p truncated) 0 0
