-- The keys of a list's entries, noted in an array, and a table of the lowest place that a key can have. Assumes nothing.
use Rattle.std.specs.Prelude.{ℕ, zero, suc, ◌+◌, ◌*◌, ◌%◌, ◌≤◌, ◌<◌, ◌≡◌, List, [], ◌∷◌, ◌++◌, length, get_or}
use Rattle.model.specs.Entries.{Keyed, entry_len, entry_of, stretch}
use Rattle.model.specs.Keys.{stored_key}
use Rattle.model.specs.declared.Size.{Size}

-- ---- a list by the places of its entries

-- the entry of the list at place i stands at place places[i] of the store; where no place is given, at place i itself
abbrev pub seen_at : Size → (places w : List ℕ) → ℕ → Keyed
seen_at s places w i = entry_of s (stretch s w (get_or places i i))

-- it lies in the store
abbrev pub SeenIn : Size → (count : ℕ) → (places w : List ℕ) → Type 0
SeenIn s count places w = (i : ℕ) → i < count → get_or places i i * entry_len s + entry_len s ≤ length w

-- the first `count` entries
unfoldable pub gathered : ℕ → (ℕ → Keyed) → List Keyed
gathered zero at = []
gathered (suc m) at = gathered m at ++ at m ∷ []

-- ---- its keys

-- a key's place in the table
abbrev pub slot_of : ℕ → ℕ
slot_of key = key % 4096

-- the table with no place raised, and at most i at `slot`
pub record Lowered (slot i : ℕ) (old new : List ℕ) : Type 0 where
  pub long : length new ≡ 4096
  pub here : get_or new slot 0 ≤ i
  pub others : (j : ℕ) → get_or new j 0 ≤ get_or old j 0

-- the keys of `count` entries
abbrev pub Kept : (count : ℕ) → (at : ℕ → Keyed) → (keys : List ℕ) → Type 0
Kept count at keys = (i : ℕ) → i < count → get_or keys i 0 ≡ stored_key (at i)

-- and an entry with a key stands no lower than the table says
pub record Noted (count : ℕ) (at : ℕ → Keyed) (keys firsts : List ℕ) : Type 0 where
  pub keys_long : length keys ≡ 256
  pub firsts_long : length firsts ≡ 4096
  pub kept : Kept count at keys
  pub low : (i : ℕ) → i < count → get_or firsts (slot_of (get_or keys i 0)) 0 ≤ i
