-- A whole number at a place of a text: one digit or more. Assumes nothing.
use Rattle.std.specs.Prelude.{ℕ, ◌^◌, cond, List, eqb, ltb, length, Ok, Err}
use Rattle.decimal.specs.Digits.{digits_at, digits_end, number}
use Rattle.decimal.specs.declared.answer.Parsed.{Parsed}
use Rattle.decimal.specs.declared.answer.DecimalError.TheVariants.{NoNumber, TooLarge}

-- NoNumber: no digit stands there; TooLarge: the number is 2^64 or more
unfoldable pub whole_at : List ℕ → ℕ → Parsed ℕ
whole_at text from =
    cond (eqb (length (digits_at text from)) 0)
    (record { value = Err NoNumber; end = from })
    (cond (ltb (number (digits_at text from)) (2 ^ 64))
    (record { value = Ok (number (digits_at text from)); end = digits_end text from })
    (record { value = Err TooLarge; end = digits_end text from }))
