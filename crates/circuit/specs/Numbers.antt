-- The numbers of a line, as crates/decimal reads them. Assumes nothing.
use Rattle.std.specs.Prelude.{List, ℕ, Float, Result, Ok, Err}
use Rattle.decimal.specs.Decimals.{decimal_at}
use Rattle.decimal.specs.declared.answer.DecimalError.{DecimalError}
use Rattle.circuit.specs.declared.lines.Fault.{Fault}
use Rattle.circuit.specs.declared.numbers.Number.{Number}

-- what crates/decimal answers for a decimal number
unfoldable pub fault_of : DecimalError → Fault
fault_of DecimalError.NoNumber = Fault.Number
fault_of DecimalError.TooLarge = Fault.Digits
fault_of DecimalError.Infinite = Fault.Infinite

unfoldable pub value_of : Result Float DecimalError → Result Float Fault
value_of (Ok value) = Ok value
value_of (Err error) = Err (fault_of error)

unfoldable pub number_at : List ℕ → ℕ → Number
number_at text at = record { value = value_of (decimal_at text at).value; end = (decimal_at text at).end }
