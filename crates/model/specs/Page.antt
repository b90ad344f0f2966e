-- Document 02, request 1: the weight page for the shift desk. Assumes nothing.
use Rattle.std.specs.Prelude.{ℕ, zero, suc, ◌+◌, ◌-◌, ◌*◌, ◌/◌, ◌%◌, ◌^◌, cond, List, [], ◌∷◌, ◌++◌, eqb, ltb, Float}
use Rattle.std.specs.Float.{nan, inf, fin}
use Rattle.std.specs.Float.Ieee.{up, down}
use Rattle.model.specs.Entries.{Entry}
use Rattle.model.specs.Sheet.{blank, line_end, digit, justified}

-- ---- the share

-- A weight's bits are a sign, 11 bits of exponent and 52 bits of significand, in front of which a 1 is left out. Where the exponent's bits are 0
-- there is no such 1, and the exponent counts as 1. The weight is significand × 2^exponent / 2^1075, exactly: a law, proofs/Page.antt. (A weight
-- is not below 0, so its sign says nothing: -0.0 is 0.)
unfoldable pub exponent_bits : ℕ → ℕ
exponent_bits w = w % 2 ^ 63 / 2 ^ 52

unfoldable pub exponent : ℕ → ℕ
exponent w = cond (eqb (exponent_bits w) 0) 1 (exponent_bits w)

unfoldable pub significand : ℕ → ℕ
significand w = cond (eqb (exponent_bits w) 0) (w % 2 ^ 52) (2 ^ 52 + w % 2 ^ 52)

-- in parts per million: the exact weight times 1,000,000, cut down to a whole number
unfoldable pub share : ℕ → ℕ
share w = 1000000 * significand w * 2 ^ exponent w / 2 ^ 1075

-- the same, said of the float that the bits are: a law (proofs/Page.antt) says that they agree
unfoldable pub millionths : Float → ℕ
millionths nan = 0
millionths (inf s) = 0
millionths (fin s m e) = 1000000 * (m * up e) / down e

-- ---- the loss word

-- 0 to 9, A to F
abbrev pub hex_digit : ℕ → ℕ
hex_digit d = cond (ltb d 10) (digit d) (65 + (d - 10))

-- the last `width` hexadecimal digits of v, leading zeros among them
unfoldable pub hexadecimal : ℕ → ℕ → List ℕ
hexadecimal zero v = []
hexadecimal (suc width) v = hexadecimal width (v / 16) ++ hex_digit (v % 16) ∷ []

-- ---- the page

-- 34 columns and byte 10
abbrev pub page_line_len : ℕ
page_line_len = 35

-- place in 5 columns and share in 11, two spaces, the loss word as 16 hexadecimal capitals
unfoldable pub page_line : ℕ → Entry → List ℕ
page_line place e =
    justified 5 place ++ justified 11 (share e.weight) ++ (blank ∷ blank ∷ []) ++ hexadecimal 16 e.body.loss ++ line_end ∷ []

-- one line per entry in list order, from a place on
unfoldable pub page_from : ℕ → List Entry → List ℕ
page_from place [] = []
page_from place (e ∷ es) = page_line place e ++ page_from (suc place) es

-- place from 1. An empty list prints nothing
unfoldable pub page_text : List Entry → List ℕ
page_text es = page_from 1 es
