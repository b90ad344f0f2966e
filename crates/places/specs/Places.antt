-- A list of entries given by their places in the store. Assumes nothing.
use Rattle.std.specs.Prelude.{ℕ, ◌-◌, ◌≤◌, ◌<◌, ◌≡◌, List, map, length, take, get_or}
use Rattle.model.specs.Entries.{Keyed, entry_of, stretch, listed}
use Rattle.model.specs.declared.Size.{Size}
use Rattle.places.specs.Leaving.{leaving}

-- the entries that stand at the first m of these places
unfoldable pub picked : Size → ℕ → (places w : List ℕ) → List Keyed
picked s m places w = map (λ i. entry_of s (stretch s w i)) (take m places)

-- the first m places: all below `count`, none twice
pub record Distinct (count m : ℕ) (places : List ℕ) : Type 0 where
  pub below : (u : ℕ) → u < m → get_or places u 0 < count
  pub once : (u v : ℕ) → u < m → v < m → get_or places u 0 ≡ get_or places v 0 → u ≡ v

-- no place of those that are listed is one of those from j on that left
abbrev pub Apart : (m j out : ℕ) (order left : List ℕ) → Type 0
Apart m j out order left = (u k : ℕ) → u < m → j ≤ k → k < out → get_or order u 0 ≡ get_or left k 0 → ⊥

-- Of the `count` entries that w lists, those that stay stand at the places of `order`, `stay` of them, and those that leave at the places of `left`.
pub record Left (s : Size) (count q : ℕ) (w order left : List ℕ) (stay : ℕ) : Type 0 where
  pub within : stay ≤ count
  pub order_long : length order ≡ 256
  pub left_long : length left ≡ 256
  pub ins : picked s stay order w ≡ (leaving q (listed s count w)).stay
  pub outs : picked s (count - stay) left w ≡ (leaving q (listed s count w)).branches
  pub listed_once : Distinct count stay order
  pub left_once : Distinct count (count - stay) left
  pub apart : Apart stay 0 (count - stay) order left
