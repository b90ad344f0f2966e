-- The byte order mark, byte by byte.
use Rattle.std.proofs.Common.{◌≡◌, ◌≤◌, ℕ, List, length, get_or, arith}
use Rattle.input.specs.Marks.{mark_length}

pub all_three : (t : List ℕ) → 3 ≤ length t → get_or t 0 0 ≡ 239 → get_or t 1 0 ≡ 187 → get_or t 2 0 ≡ 191 → 3 ≡ mark_length t
unfolding mark_length
all_three t l x y z = grind arith
