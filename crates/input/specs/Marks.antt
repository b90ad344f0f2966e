-- What a text begins with. Assumes nothing.
use Rattle.std.specs.Prelude.{cond, ◌&&◌, List, ℕ, eqb, leb, length, get_or}

-- the byte order mark EF BB BF at the front of a text: how long it is
unfoldable pub mark_length : List ℕ → ℕ
mark_length t = cond (leb 3 (length t) && (eqb (get_or t 0 0) 239 && (eqb (get_or t 1 0) 187 && eqb (get_or t 2 0) 191))) 3 0
