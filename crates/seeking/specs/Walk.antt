-- What is sought, and the walk over stored keys for it. Assumes nothing.
use Rattle.std.specs.Prelude.{ℕ, ◌+◌, ◌*◌, ◌≤◌, ◌≡◌, List, Float, length, drop}
use Rattle.model.specs.Entries.{Keyed, entry_len, entry_of, stretch}
use Rattle.model.specs.Keys.{usual_salts, stored_key}
use Rattle.model.specs.Changes.{changed_keyed}
use Rattle.model.specs.Store.{walk}
use Rattle.model.specs.Qubits.{QubitsBelow}
use Rattle.model.specs.declared.Size.{Size}
use Rattle.changes.specs.Changes.{change_of}
use Rattle.seeking.specs.declared.Sought.{Sought}
use Rattle.seeking.specs.declared.Search.{Search}

-- ---- what is sought in the store w: an entry of it, changed

abbrev pub sought_in : Size → (w : List ℕ) → Sought → Keyed
sought_in s w b = changed_keyed usual_salts s.n b.mutation (entry_of s (stretch s w b.origin))

-- the entry lies in the store and has no more coefficients than K; its key and the change are those of the mutation
pub record Consistent (s : Size) (w : List ℕ) (b : Sought) : Type 0 where
  pub inside : b.origin * entry_len s + entry_len s ≤ length w
  pub few : (entry_of s (stretch s w b.origin)).entry.body.count ≤ s.k
  pub below : QubitsBelow 64 b.mutation
  pub key : b.key ≡ stored_key (sought_in s w b)
  pub change : b.change ≡ change_of usual_salts s.n b.mutation (entry_of s (stretch s w b.origin)).entry.body.rows

-- ---- the search

-- the search for b among es is the walk over their stored keys
pub record Searched (s : Size) (threshold : Float) (b : Keyed) (es : List Keyed) (r : Search) : Type 0 where
  pub found : r.found ≡ (walk s threshold b 0 es).found
  pub tested : r.compared ≡ length (walk s threshold b 0 es).tested

-- the walk has come to place i, with `compared` comparisons made: from there on it gives what is left of the whole walk's answer
pub record Walking (s : Size) (threshold : Float) (b : Keyed) (es : List Keyed) (compared i : ℕ) : Type 0 where
  pub within : i ≤ length es
  pub few : compared ≤ i
  pub counted : compared + length (walk s threshold b i (drop i es)).tested ≡ length (walk s threshold b 0 es).tested
  pub same : (walk s threshold b i (drop i es)).found ≡ (walk s threshold b 0 es).found
