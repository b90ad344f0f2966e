-- An order of places, of which the first are settled, and where each place stands in it. Assumes nothing.
use Rattle.std.specs.Prelude.{ℕ, ◌<◌, ◌≡◌, List, length, get_or}

-- at each of the first m places of `order` stands, in `holds`, its number in that order; at every other place stands no number below 256
pub record Inverse (m : ℕ) (order holds : List ℕ) : Type 0 where
  pub order_long : length order ≡ 256
  pub holds_long : length holds ≡ 256
  pub there : (u : ℕ) → u < m → get_or holds (get_or order u 0) 0 ≡ u
  pub back : (p : ℕ) → p < 256 → get_or holds p 0 < 256 → (get_or holds p 0 < m) × (get_or order (get_or holds p 0) 0 ≡ p)

-- the places are below `count`, and each of the first v is its own number
pub record Settled (count m v : ℕ) (order holds : List ℕ) : Type 0 where
  pub inverse : Inverse m order holds
  pub below : (u : ℕ) → u < m → get_or order u 0 < count
  pub settled : (u : ℕ) → u < v → get_or order u 0 ≡ u
