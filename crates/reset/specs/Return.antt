-- Entries that left come back: each becomes live where it stands and is merged into the list, which is given by the places of its entries.
-- Assumes nothing.
use Rattle.std.specs.Prelude.{ℕ, ◌≤◌, ◌<◌, ◌≡◌, List, map, Float, length, get_or}
use Rattle.model.specs.Entries.{Keyed, entry_of, stretch}
use Rattle.model.specs.Keys.{usual_salts, stored_key}
use Rattle.model.specs.Changes.{changed_keyed}
use Rattle.model.specs.Store.{Tally, begun, walk, merge, merge_all, tested_all, how_many, above_cutoff}
use Rattle.model.specs.Calls.{engine}
use Rattle.model.specs.declared.BranchMutation.TheVariants.{Loss as loss}
use Rattle.model.specs.declared.Size.{Size}
use Rattle.model.specs.Sound.{Packed}
use Rattle.places.specs.Leaving.{leaving}
use Rattle.places.specs.Places.{picked, Distinct}
use Rattle.changes.specs.Changes.{loss_change}
use Rattle.seeking.specs.Noted.{seen_at, Noted}
use Rattle.seeking.specs.declared.Sought.{Sought}
use Rattle.merging.specs.Fates.{count_by, tally_by}
use Rattle.merging.specs.Progress.{tallied_by, tally_of}
use Rattle.merging.specs.declared.Fate.TheVariants.{NoRoom}
use Rattle.merging.specs.declared.Progress.{Progress}
use Rattle.merging.specs.declared.Settled.{Settled}
use Rattle.reset.specs.declared.LostEntry.{LostEntry}

-- an entry that was lost at q, live again
abbrev pub live : Size → ℕ → Keyed → Keyed
live s q e = changed_keyed usual_salts s.n (loss q) e

-- the one that stands at place i
abbrev pub live_at : Size → ℕ → List ℕ → ℕ → Keyed
live_at s q w i = live s q (entry_of s (stretch s w i))

-- what is sought once an entry has left: its live form
abbrev pub sought_live : Size → (w : List ℕ) → LostEntry → Sought
sought_live s w e =
    record { origin = e.place; mutation = loss e.qubit; change = loss_change e.qubit; key = stored_key (live_at s e.qubit w e.place) }

-- The branch b, the live form of the entry at place i, was merged into the `count` entries at the places of `order`, of `total` in the store w.
pub record Returned (s : Size) (total count : ℕ) (threshold cutoff : Float) (i : ℕ) (b : Keyed) (order w order' w' keys firsts : List ℕ) (r : Settled) : Type 0 where
  pub packed : Packed s total w'
  pub long : length order' ≡ 256
  pub once : Distinct total (count_by r.fate count) order'
  pub noted : Noted (count_by r.fate count) (seen_at s order' w') keys firsts
  -- there is always room
  pub roomy : r.fate ≡ NoRoom → ⊥
  pub tested : r.compared ≡ length (walk s threshold b 0 (picked s count order w)).tested
  pub tally : merge (engine s threshold) (above_cutoff cutoff) b (begun (picked s count order w)) ≡ tally_by r.fate b (picked s (count_by r.fate count) order' w')
  -- an entry that was not listed, and is not the one that came back, is as it was and is not listed
  pub others : (k : ℕ) → k < total → (k ≡ i → ⊥) → ((u : ℕ) → u < count → get_or order u 0 ≡ k → ⊥)
      → (entry_of s (stretch s w' k) ≡ entry_of s (stretch s w k)) × ((u : ℕ) → u < count_by r.fate count → get_or order' u 0 ≡ k → ⊥)

-- the list so far, and what became of the branches
abbrev pub tally_on : Size → Progress → (order w : List ℕ) → Tally Keyed
tally_on s p order w = tallied_by p (picked s p.count order w)

-- The branches bs are merged into the entries es, which left p: its entries stand at the places of `order`, of `total` in the store w.
pub record Brought (s : Size) (total : ℕ) (threshold cutoff : Float) (es bs : List Keyed) (p : Progress) (order w : List ℕ) : Type 0 where
  pub packed : Packed s total w
  pub within : p.count ≤ total
  pub long : length order ≡ 256
  pub once : Distinct total p.count order
  pub tally : tally_on s p order w ≡ merge_all (engine s threshold) (above_cutoff cutoff) bs (begun es)
  pub compared : p.compared ≡ how_many (tested_all usual_salts s threshold (above_cutoff cutoff) bs (begun es))

-- The branches bs are merged into the entries es, which left p and the store w.
pub record Merged (s : Size) (threshold cutoff : Float) (es bs : List Keyed) (p : Progress) (w : List ℕ) : Type 0 where
  pub packed : Packed s p.count w
  pub tally : tally_of s p w ≡ merge_all (engine s threshold) (above_cutoff cutoff) bs (begun es)
  pub compared : p.compared ≡ how_many (tested_all usual_salts s threshold (above_cutoff cutoff) bs (begun es))

-- the branches of the entries es that are lost at q: these, live
abbrev pub lost_of : Size → ℕ → List Keyed → List Keyed
lost_of s q es = map (live s q) (leaving q es).branches
