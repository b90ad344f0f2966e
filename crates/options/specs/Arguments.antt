-- What the arguments of run_circuit say. Assumes nothing.
use Rattle.std.specs.Prelude.{Bool, cond, ◌&&◌, List, ℕ, eqb, leb, length, Float, Option, Some, None, Result, Ok, Err}
use Rattle.std.specs.Float.{binary64}
use Rattle.std.specs.Float.Ieee.{of_bits, le}
use Rattle.decimal.specs.Wholes.{whole_at}
use Rattle.decimal.specs.Decimals.{decimal_at}
use Rattle.decimal.specs.declared.answer.Parsed.{Parsed}
use Rattle.decimal.specs.declared.answer.DecimalError.{DecimalError}

-- A value is taken if it is a number (Ok), nothing follows it, and it is one of those that are allowed.
abbrev pub taken : {A : Type 0} → Bool → Bool → A → Option A
taken {A} alone allowed value = cond {A = Option A} (alone && allowed) (Some value) None

-- ---- whole numbers

-- a whole number, alone in its text or not, if it is from `least` to `most`
unfoldable pub count_in : ℕ → ℕ → Bool → Result ℕ DecimalError → Option ℕ
count_in least most alone (Ok value) = taken alone (leb least value && leb value most) value
count_in least most alone (Err error) = None

-- .. that was read in a text of n bytes
unfoldable pub count_from : ℕ → ℕ → ℕ → Parsed ℕ → Option ℕ
count_from least most n w = count_in least most (eqb w.end n) w.value

abbrev pub count_of : ℕ → ℕ → List ℕ → Option ℕ
count_of least most text = count_from least most (length text) (whole_at text 0)

-- ---- decimals

-- a decimal number, alone in its text or not, if it is 0 or more
unfoldable pub bound_in : Bool → Result Float DecimalError → Option Float
bound_in alone (Ok value) = taken alone (le (of_bits binary64 0) value) value
bound_in alone (Err error) = None

-- .. that was read in a text of n bytes
unfoldable pub bound_from : ℕ → Parsed Float → Option Float
bound_from n d = bound_in (eqb d.end n) d.value

abbrev pub bound_of : List ℕ → Option Float
bound_of text = bound_from (length text) (decimal_at text 0)
