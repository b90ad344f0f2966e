-- Those that stay, and those that leave, when the entries lost at a qubit are taken out of the list. Assumes nothing.
use Rattle.std.specs.Prelude.{ℕ, Bool, List, eqb, length}
use Rattle.model.specs.Entries.{Keyed}
use Rattle.model.specs.Keys.{lost_bit}
use Rattle.model.specs.Store.{Split, keyed_weighed, body_of}
use Rattle.model.specs.Reset.{drained}

-- lost at q
abbrev pub lost_at : ℕ → Keyed → Bool
lost_at q e = eqb (lost_bit (body_of keyed_weighed e) q) 1

-- those that stay, and those that leave, in the order in which they leave
abbrev pub leaving : ℕ → List Keyed → Split Keyed
leaving q es = drained (lost_at q) (length es) es
