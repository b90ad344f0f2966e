-- A walk from the last counted coefficient down, on its way. Assumes nothing.
use Rattle.std.specs.Prelude.{ℕ, ◌-◌, ◌<◌, ◌≤◌, ◌≡◌, List, Option, MatchOption}
use Rattle.model.specs.Entries.{index_at}
use Rattle.model.specs.Likeness.{Hit}

-- so many were read, and none of them is a hit
pub record Passed (coefs : List ℕ) (i count read : ℕ) : Type 0 where
  pub missed : (l : ℕ) → count - read ≤ l → l < count → index_at coefs l ≡ i → ⊥

-- the walk goes on until `end` are read, or a hit is: with how many are read then
abbrev pub WalkedTo : List ℕ → (i count end : ℕ) → Option ℕ → Type 0
WalkedTo coefs i count end r = MatchOption r (Passed coefs i count end) (λ n. (0 < n) × (n ≤ count) × Hit coefs i count (count - n))
