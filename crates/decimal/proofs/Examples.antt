-- Worked examples of the definitions: the bits are those that another program's reading of the text gives. Assumes nothing.
use mathlib.Core.Path.{◌≡◌, refl}
use mathlib.Core.List.{[], ◌∷◌}
use Prim.Native.Nat.{ℕ}
use Rattle.std.specs.Prelude.{Result, Ok, Err}
use lib.Ieee.{Float, binary64, of_bits, round, neg}
use Rattle.decimal.specs.Digits.{is_digit, digits, number_from}
use Rattle.decimal.specs.Wholes.{whole_at}
use Rattle.decimal.specs.Decimals.{is_sign, is_exponent, sign_end, significand_at, exponent_at, up, down, signed, refused, answer_for, scaled, answer_of, decimal_at}
use Rattle.decimal.specs.declared.answer.Parsed.{Parsed}
use Rattle.decimal.specs.declared.answer.DecimalError.{DecimalError}
use Rattle.decimal.specs.declared.answer.DecimalError.TheVariants.{NoNumber, TooLarge, Infinite}

abbrev read : ℕ → ℕ → Parsed Float
read bits end = record { value = Ok (of_bits binary64 bits); end = end }

-- ---- a rate that is written in two ways

-- 0.001
thousandth : decimal_at (48 ∷ 46 ∷ 48 ∷ 48 ∷ 49 ∷ []) 0 ≡ read 0x3f50_624d_d2f1_a9fc 5
unfolding decimal_at significand_at sign_end is_sign digits is_digit number_from exponent_at is_exponent answer_of scaled answer_for up down signed round neg of_bits
thousandth = refl

-- 1e-3
thousandth-by-exponent : decimal_at (49 ∷ 101 ∷ 45 ∷ 51 ∷ []) 0 ≡ read 0x3f50_624d_d2f1_a9fc 4
unfolding decimal_at significand_at sign_end is_sign digits is_digit number_from exponent_at is_exponent answer_of scaled answer_for up down signed round neg of_bits
thousandth-by-exponent = refl

-- ---- no digit before the point, none after it, and a comma that ends the number

-- .5
half : decimal_at (46 ∷ 53 ∷ []) 0 ≡ read 0x3fe0_0000_0000_0000 2
unfolding decimal_at significand_at sign_end is_sign digits is_digit number_from exponent_at is_exponent answer_of scaled answer_for up down signed round neg of_bits
half = refl

-- 1.
one : decimal_at (49 ∷ 46 ∷ []) 0 ≡ read 0x3ff0_0000_0000_0000 2
unfolding decimal_at significand_at sign_end is_sign digits is_digit number_from exponent_at is_exponent answer_of scaled answer_for up down signed round neg of_bits
one = refl

-- +0.1,
tenth : decimal_at (43 ∷ 48 ∷ 46 ∷ 49 ∷ 44 ∷ []) 0 ≡ read 0x3fb9_9999_9999_999a 4
unfolding decimal_at significand_at sign_end is_sign digits is_digit number_from exponent_at is_exponent answer_of scaled answer_for up down signed round neg of_bits
tenth = refl

-- ---- a zero keeps its sign

-- -0
minus-zero : decimal_at (45 ∷ 48 ∷ []) 0 ≡ read 0x8000_0000_0000_0000 2
unfolding decimal_at significand_at sign_end is_sign digits is_digit number_from exponent_at is_exponent answer_of scaled answer_for up down signed round neg of_bits
minus-zero = refl

-- ---- an e with no digit is not part of the number

-- 12e+
bare-e : decimal_at (49 ∷ 50 ∷ 101 ∷ 43 ∷ []) 0 ≡ read 0x4028_0000_0000_0000 2
unfolding decimal_at significand_at sign_end is_sign digits is_digit number_from exponent_at is_exponent answer_of scaled answer_for up down signed round neg of_bits
bare-e = refl

-- ---- more digits than an f64 holds: rounded first, and then divided, they would give another f64

-- 0.009583005037279291
sixteen-digits : decimal_at (48 ∷ 46 ∷ 48 ∷ 48 ∷ 57 ∷ 53 ∷ 56 ∷ 51 ∷ 48 ∷ 48 ∷ 53 ∷ 48 ∷ 51 ∷ 55 ∷ 50 ∷ 55 ∷ 57 ∷ 50 ∷ 57 ∷ 49 ∷ []) 0 ≡ read 0x3f83_a041_29dc_324d 20
unfolding decimal_at significand_at sign_end is_sign digits is_digit number_from exponent_at is_exponent answer_of scaled answer_for up down signed round neg of_bits
sixteen-digits = refl

-- 0.0037978053378978026
seventeen-digits : decimal_at (48 ∷ 46 ∷ 48 ∷ 48 ∷ 51 ∷ 55 ∷ 57 ∷ 55 ∷ 56 ∷ 48 ∷ 53 ∷ 51 ∷ 51 ∷ 55 ∷ 56 ∷ 57 ∷ 55 ∷ 56 ∷ 48 ∷ 50 ∷ 54 ∷ []) 0 ≡ read 0x3f6f_1c93_3721_8c73 21
unfolding decimal_at significand_at sign_end is_sign digits is_digit number_from exponent_at is_exponent answer_of scaled answer_for up down signed round neg of_bits
seventeen-digits = refl

-- ---- in the middle between two f64s, and a little above that

-- 9007199254740993
middle : decimal_at (57 ∷ 48 ∷ 48 ∷ 55 ∷ 49 ∷ 57 ∷ 57 ∷ 50 ∷ 53 ∷ 52 ∷ 55 ∷ 52 ∷ 48 ∷ 57 ∷ 57 ∷ 51 ∷ []) 0 ≡ read 0x4340_0000_0000_0000 16
unfolding decimal_at significand_at sign_end is_sign digits is_digit number_from exponent_at is_exponent answer_of scaled answer_for up down signed round neg of_bits
middle = refl

-- 9007199254740993.001
above-middle : decimal_at (57 ∷ 48 ∷ 48 ∷ 55 ∷ 49 ∷ 57 ∷ 57 ∷ 50 ∷ 53 ∷ 52 ∷ 55 ∷ 52 ∷ 48 ∷ 57 ∷ 57 ∷ 51 ∷ 46 ∷ 48 ∷ 48 ∷ 49 ∷ []) 0 ≡ read 0x4340_0000_0000_0001 20
unfolding decimal_at significand_at sign_end is_sign digits is_digit number_from exponent_at is_exponent answer_of scaled answer_for up down signed round neg of_bits
above-middle = refl

-- ---- powers of ten that are no f64s; the largest f64, and the smallest above 0

-- 123456789012345e23
large-power : decimal_at (49 ∷ 50 ∷ 51 ∷ 52 ∷ 53 ∷ 54 ∷ 55 ∷ 56 ∷ 57 ∷ 48 ∷ 49 ∷ 50 ∷ 51 ∷ 52 ∷ 53 ∷ 101 ∷ 50 ∷ 51 ∷ []) 0 ≡ read 0x47a2_9361_ede0_0449 18
unfolding decimal_at significand_at sign_end is_sign digits is_digit number_from exponent_at is_exponent answer_of scaled answer_for up down signed round neg of_bits
large-power = refl

-- 1.7976931348623157E308
largest : decimal_at (49 ∷ 46 ∷ 55 ∷ 57 ∷ 55 ∷ 54 ∷ 57 ∷ 51 ∷ 49 ∷ 51 ∷ 52 ∷ 56 ∷ 54 ∷ 50 ∷ 51 ∷ 49 ∷ 53 ∷ 55 ∷ 69 ∷ 51 ∷ 48 ∷ 56 ∷ []) 0 ≡ read 0x7fef_ffff_ffff_ffff 22
unfolding decimal_at significand_at sign_end is_sign digits is_digit number_from exponent_at is_exponent answer_of scaled answer_for up down signed round neg of_bits
largest = refl

-- 5e-324
smallest : decimal_at (53 ∷ 101 ∷ 45 ∷ 51 ∷ 50 ∷ 52 ∷ []) 0 ≡ read 0x0000_0000_0000_0001 6
unfolding decimal_at significand_at sign_end is_sign digits is_digit number_from exponent_at is_exponent answer_of scaled answer_for up down signed round neg of_bits
smallest = refl

-- 3e-324
rounded-up : decimal_at (51 ∷ 101 ∷ 45 ∷ 51 ∷ 50 ∷ 52 ∷ []) 0 ≡ read 0x0000_0000_0000_0001 6
unfolding decimal_at significand_at sign_end is_sign digits is_digit number_from exponent_at is_exponent answer_of scaled answer_for up down signed round neg of_bits
rounded-up = refl

-- -2e-324
rounded-to-zero : decimal_at (45 ∷ 50 ∷ 101 ∷ 45 ∷ 51 ∷ 50 ∷ 52 ∷ []) 0 ≡ read 0x8000_0000_0000_0000 7
unfolding decimal_at significand_at sign_end is_sign digits is_digit number_from exponent_at is_exponent answer_of scaled answer_for up down signed round neg of_bits
rounded-to-zero = refl

-- ---- the most that 19 digits write

-- 9999999999999999999
longest : decimal_at (57 ∷ 57 ∷ 57 ∷ 57 ∷ 57 ∷ 57 ∷ 57 ∷ 57 ∷ 57 ∷ 57 ∷ 57 ∷ 57 ∷ 57 ∷ 57 ∷ 57 ∷ 57 ∷ 57 ∷ 57 ∷ 57 ∷ []) 0 ≡ read 0x43e1_58e4_6091_3d00 19
unfolding decimal_at significand_at sign_end is_sign digits is_digit number_from exponent_at is_exponent answer_of scaled answer_for up down signed round neg of_bits
longest = refl

-- ---- refused: 20 digits; beyond the f64s; no digit

-- 10000000000000000000
too_long : decimal_at (49 ∷ 48 ∷ 48 ∷ 48 ∷ 48 ∷ 48 ∷ 48 ∷ 48 ∷ 48 ∷ 48 ∷ 48 ∷ 48 ∷ 48 ∷ 48 ∷ 48 ∷ 48 ∷ 48 ∷ 48 ∷ 48 ∷ 48 ∷ []) 0 ≡ refused TooLarge 20
unfolding decimal_at significand_at sign_end is_sign digits is_digit number_from exponent_at is_exponent answer_of scaled answer_for up down signed round neg of_bits
too_long = refl

-- 1e309
too_large : decimal_at (49 ∷ 101 ∷ 51 ∷ 48 ∷ 57 ∷ []) 0 ≡ refused Infinite 5
unfolding decimal_at significand_at sign_end is_sign digits is_digit number_from exponent_at is_exponent answer_of scaled answer_for up down signed round neg of_bits
too_large = refl

-- +.
point-alone : decimal_at (43 ∷ 46 ∷ []) 0 ≡ refused NoNumber 0
unfolding decimal_at significand_at sign_end is_sign digits is_digit number_from exponent_at is_exponent answer_of scaled answer_for up down signed round neg of_bits
point-alone = refl

-- ---- whole numbers

abbrev number_read : Result ℕ DecimalError → ℕ → Parsed ℕ
number_read value end = record { value = value; end = end }

-- 007
seven : whole_at (48 ∷ 48 ∷ 55 ∷ []) 0 ≡ number_read (Ok 7) 3
unfolding whole_at digits is_digit number_from
seven = refl

-- 18446744073709551615
largest-word : whole_at (49 ∷ 56 ∷ 52 ∷ 52 ∷ 54 ∷ 55 ∷ 52 ∷ 52 ∷ 48 ∷ 55 ∷ 51 ∷ 55 ∷ 48 ∷ 57 ∷ 53 ∷ 53 ∷ 49 ∷ 54 ∷ 49 ∷ 53 ∷ []) 0 ≡ number_read (Ok 18446744073709551615) 20
unfolding whole_at digits is_digit number_from
largest-word = refl

-- 18446744073709551616
past-largest-word : whole_at (49 ∷ 56 ∷ 52 ∷ 52 ∷ 54 ∷ 55 ∷ 52 ∷ 52 ∷ 48 ∷ 55 ∷ 51 ∷ 55 ∷ 48 ∷ 57 ∷ 53 ∷ 53 ∷ 49 ∷ 54 ∷ 49 ∷ 54 ∷ []) 0 ≡ number_read (Err TooLarge) 20
unfolding whole_at digits is_digit number_from
past-largest-word = refl

-- -1
no_number : whole_at (45 ∷ 49 ∷ []) 0 ≡ number_read (Err NoNumber) 0
unfolding whole_at digits is_digit number_from
no_number = refl
