-- The bytes of a text, and numbers in base 10. Assumes nothing.
use Rattle.std.specs.Prelude.{ℕ, ◌+◌, ◌*◌, ◌-◌, Bool, cond, ◌&&◌, List, [], ◌∷◌, leb, length, get_or, drop}

-- the byte at a place; 0 past the end
abbrev pub byte_at : List ℕ → ℕ → ℕ
byte_at text i = get_or text i 0

-- '0' to '9'
unfoldable pub is_digit : ℕ → Bool
is_digit b = leb 48 b && leb b 57

-- the digits that a text begins with
unfoldable pub digits : List ℕ → List ℕ
digits [] = []
digits (b ∷ bs) = cond (is_digit b) (b ∷ digits bs) []

-- the digits from a place on, and where they end
abbrev pub digits_at : List ℕ → ℕ → List ℕ
digits_at text i = digits (drop i text)

abbrev pub digits_end : List ℕ → ℕ → ℕ
digits_end text i = i + length (digits_at text i)

-- the number that digits write, after those of v
unfoldable pub number_from : ℕ → List ℕ → ℕ
number_from v [] = v
number_from v (d ∷ ds) = number_from (10 * v + (d - 48)) ds

-- the number that digits write
abbrev pub number : List ℕ → ℕ
number ds = number_from 0 ds
