-- A decimal at a place of a text: optionally a sign; digits, and optionally a point and digits, with one digit or more in all;
-- optionally an e, a sign if there is one, and one digit or more. Its value is rounded once. Assumes nothing.
use Rattle.std.specs.Prelude.{ℕ, ◌+◌, ◌*◌, ◌-◌, ◌^◌, Bool, false, cond, not, ◌&&◌, ◌||◌, List, [], ◌++◌, eqb, ltb, length, Float, Ok, Err}
use Rattle.std.specs.Float.{binary64}
use Rattle.std.specs.Float.Ieee.{round, neg}
use Rattle.std.specs.Float.Ieee.Scale.{finite}
use Rattle.nearest.specs.Large.{digit_limit}
use Rattle.decimal.specs.Digits.{byte_at, digits_at, digits_end, number}
use Rattle.decimal.specs.declared.Significand.{Significand}
use Rattle.decimal.specs.declared.Exponent.{Exponent}
use Rattle.decimal.specs.declared.answer.Parsed.{Parsed}
use Rattle.decimal.specs.declared.answer.DecimalError.{DecimalError}
use Rattle.decimal.specs.declared.answer.DecimalError.TheVariants.{NoNumber, TooLarge, Infinite}

-- ---- the parts of its text

abbrev pub plus : ℕ
plus = 43

abbrev pub minus : ℕ
minus = 45

abbrev pub point : ℕ
point = 46

unfoldable pub is_sign : ℕ → Bool
is_sign b = eqb b plus || eqb b minus

-- 'e' or 'E'
unfoldable pub is_exponent : ℕ → Bool
is_exponent b = eqb b 101 || eqb b 69

-- past the sign at a place, if one stands there
unfoldable pub sign_end : List ℕ → ℕ → ℕ
sign_end text i = cond (is_sign (byte_at text i)) (i + 1) i

-- What digits before a point and digits after it write without the point, how many there are, how many of them stand after the point.
-- (The numbers of a struct are of any size here.)
abbrev pub written : List ℕ → List ℕ → ℕ → Significand
written whole fraction end = record { value = number (whole ++ fraction); digits = length (whole ++ fraction); after = length fraction; end = end }

-- digits, and optionally a point and digits
unfoldable pub significand_at : List ℕ → ℕ → Significand
significand_at text i =
    let p = digits_end text i in
    cond (eqb (byte_at text p) point)
    (written (digits_at text i) (digits_at text (p + 1)) (digits_end text (p + 1)))
    (written (digits_at text i) [] p)

-- optionally an e, a sign if there is one, and one digit or more
unfoldable pub exponent_at : List ℕ → ℕ → Exponent
exponent_at text i =
    let start = sign_end text (i + 1) in
    cond (is_exponent (byte_at text i) && not (eqb (length (digits_at text start)) 0))
    (record { negative = eqb (byte_at text (i + 1)) minus; size = number (digits_at text start); end = digits_end text start })
    (record { negative = false; size = 0; end = i })

-- ---- its value

-- x - f, of an exponent's sign and size and the digits f after the point, is up - down; and one of the two is 0
unfoldable pub up : Bool → ℕ → ℕ → ℕ
up negative x f = cond negative 0 (x - f)

unfoldable pub down : Bool → ℕ → ℕ → ℕ
down negative x f = cond negative (x + f) (f - x)

unfoldable pub signed : Bool → Float → Float
signed negative x = cond negative (neg x) x

-- ---- the answer

-- no number, or one that is not taken
abbrev pub refused : DecimalError → ℕ → Parsed Float
refused error end = record { value = Err error; end = end }

-- Infinite: its size is, rounded
unfoldable pub answer_for : Bool → Float → ℕ → Parsed Float
answer_for negative size end = cond (finite size) (record { value = Ok (signed negative size); end = end }) (refused Infinite end)

-- the f64 nearest to m × 10^up / 10^down, with the sign applied
unfoldable pub scaled : Bool → ℕ → ℕ → ℕ → ℕ → Parsed Float
scaled negative m up down end = answer_for negative (round binary64 false (m * 10 ^ up) (10 ^ down)) end

-- TooLarge: the digits write 10^19 or more
unfoldable pub answer_of : Bool → ℕ → ℕ → Exponent → Parsed Float
answer_of negative m f x =
    cond (ltb m digit_limit)
    (scaled negative m (up x.negative x.size f) (down x.negative x.size f) x.end)
    (refused TooLarge x.end)

-- NoNumber: no digit stands there
unfoldable pub decimal_at : List ℕ → ℕ → Parsed Float
decimal_at text from =
    let s = significand_at text (sign_end text from) in
    cond (eqb s.digits 0)
    (refused NoNumber from)
    (answer_of (eqb (byte_at text from) minus) s.value s.after (exponent_at text s.end))
