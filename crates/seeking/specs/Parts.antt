-- Rows, compared in two parts. Assumes nothing.
use Rattle.std.specs.Prelude.{ℕ, zero, suc}
use Rattle.changes.specs.declared.Change.{Change}

-- the bits of the part that begins with row r
unfoldable pub flips_from : Change → ℕ → ℕ
flips_from c zero = c.low
flips_from c (suc r) = c.high
