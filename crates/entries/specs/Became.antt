-- An entry's words, changed. Assumes nothing.
use Rattle.std.specs.Prelude.{◌≡◌, List, ℕ, length}
use Rattle.model.specs.Entries.{Keyed, entry_len, entry_of}
use Rattle.model.specs.declared.Size.{Size}

-- a stretch x of words became y, which is as long: its entry is what f makes of it
pub record Became (s : Size) (f : Keyed → Keyed) (x y : List ℕ) : Type 0 where
  pub long : length y ≡ entry_len s
  pub entry : entry_of s y ≡ f (entry_of s x)
