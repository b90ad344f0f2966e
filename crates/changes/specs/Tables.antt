-- What the branches of a parent change of it, as two tables. Assumes nothing.
use Rattle.std.specs.Prelude.{ℕ, ◌+◌, ◌*◌, ◌/◌, ◌%◌, List, ◌++◌, get_or}
use Rattle.std.specs.Int.Bits.{bit_xor}
use Rattle.model.specs.Keys.{usual_salts}
use Rattle.arms.specs.declared.Shape.{Shape}
use Rattle.arms.specs.declared.Shape.TheVariants.{One, Lose, Two}
use Rattle.changes.specs.Changes.{loss_change, change_words, change_table}
use Rattle.changes.specs.declared.Change.{Change}

-- the rows that are walked
unfoldable pub walked_rows : Shape → ℕ → ℕ
walked_rows (One q) n = 2 * n
walked_rows (Lose q) n = 0
walked_rows (Two p q) n = 2 * n

-- a change four times over
abbrev pub four : Change → List ℕ
four c = change_words c ++ change_words c ++ change_words c ++ change_words c

-- nothing
abbrev pub no_change : Change
no_change = record { delta = 0; low = 0; high = 0 }

-- what the first of two Paulis changes
unfoldable pub first_table : Shape → ℕ → List ℕ → List ℕ
first_table (One q) n rows = four no_change
first_table (Lose q) n rows = four no_change
first_table (Two p q) n rows = change_table usual_salts n rows p

-- what the second, or the only one, changes; a loss
unfoldable pub second_table : Shape → ℕ → List ℕ → List ℕ
second_table (One q) n rows = change_table usual_salts n rows q
second_table (Lose q) n rows = four (loss_change q)
second_table (Two p q) n rows = change_table usual_salts n rows q

-- both
unfoldable pub both_change : Change → Change → Change
both_change c d = record { delta = bit_xor c.delta d.delta; low = bit_xor c.low d.low; high = bit_xor c.high d.high }

-- the change at number i of a table
unfoldable pub change_in : List ℕ → ℕ → Change
change_in table i = record { delta = get_or table (3 * i) 0; low = get_or table (3 * i + 1) 0; high = get_or table (3 * i + 2) 0 }

-- what branch a changes, by these
unfoldable pub change_at : (first second : List ℕ) → ℕ → Change
change_at first second a = both_change (change_in first ((a + 1) / 4)) (change_in second ((a + 1) % 4))
