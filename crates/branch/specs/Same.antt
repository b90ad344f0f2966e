-- Words compared. Assumes nothing.
use Rattle.std.specs.Prelude.{ℕ, Bool, ◌&&◌, List, eqb, get_or}
use Rattle.model.specs.Entries.{x_at, z_at}

-- word k of the two is the same
abbrev pub same_word : (e p : List ℕ) → ℕ → Bool
same_word e p k = eqb (get_or e k 0) (get_or p k 0)

-- row r of the two has the same x and z
abbrev pub same_pauli : (e p : List ℕ) → ℕ → Bool
same_pauli e p r = eqb (x_at e r) (x_at p r) && eqb (z_at e r) (z_at p r)
