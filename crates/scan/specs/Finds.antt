-- Where a byte stands first in a stretch of a text. Assumes nothing.
use Rattle.std.specs.Prelude.{ℕ, List, ◌≢◌, ◌<◌, ◌≤◌, get_or}

-- no place from one on up to another has the byte
abbrev pub Lacks : List ℕ → ℕ → ℕ → ℕ → Type 0
Lacks text from to byte = (i : ℕ) → from ≤ i → i < to → get_or text i 0 ≢ byte
