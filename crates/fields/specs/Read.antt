-- What a field is read as, whether anything was read, and a field's columns one by one. Assumes nothing.
use Rattle.std.specs.Prelude.{ℕ, ◌%◌, Bool, true, false, cond, eqb}
use Rattle.std.specs.Prelude as code
use Rattle.std.specs.Prelude.{None, Some}
use Rattle.std.proofs.Math.Option.{Option, none, some}
use Rattle.model.specs.Sheet.{blank, digit}

-- the same in the words of the text that is read
abbrev pub as_option : code.Option ℕ → Option ℕ
as_option None = none
as_option (Some v) = some v

unfoldable pub is_some : {A : Type 0} → Option A → Bool
is_some none = false
is_some (some a) = true

-- the last column of a number's digits, if there are any; else a blank
unfoldable pub column : ℕ → ℕ
column v = cond (eqb v 0) blank (digit (v % 10))
