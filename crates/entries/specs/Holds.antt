-- What a store holds. Assumes nothing.
use Rattle.std.specs.Prelude.{◌≡◌, List, ℕ}
use Rattle.model.specs.Entries.{Keyed, listed}
use Rattle.model.specs.declared.Size.{Size}
use Rattle.model.specs.Sound.{Packed}

-- the store lists these entries, and 0 past them
pub record Holds (s : Size) (count : ℕ) (es : List Keyed) (w : List ℕ) : Type 0 where
  pub packed : Packed s count w
  pub entries : listed s count w ≡ es
