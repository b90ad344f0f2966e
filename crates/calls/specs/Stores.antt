-- The words of a store, and a copy of them. Assumes nothing.
use Rattle.std.specs.Prelude.{cond, ◌&&◌, List, ◌++◌, ℕ, ◌*◌, ◌-◌, ltb, leb, length, replicate}
use Rattle.model.specs.Entries.{entry_len}
use Rattle.model.specs.Numbers.{max_qubits, max_capacity}

-- capacity × entry length, for one coefficient an entry
unfoldable pub store_words : ℕ → ℕ → ℕ
store_words n capacity =
    cond (leb n max_qubits && leb capacity max_capacity) (capacity * entry_len (record { n = n; k = 1; capacity = capacity })) 0

-- words in a store of `room` words: 0 past them
unfoldable pub laid : ℕ → List ℕ → List ℕ
laid room w = w ++ replicate (room - length w) 0

-- .. in a scratch that is long enough
unfoldable pub copied : List ℕ → List ℕ → List ℕ
copied w scratch = cond (ltb (length scratch) (length w)) scratch (laid (length scratch) w)
