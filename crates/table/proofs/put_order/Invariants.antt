-- `table::put_order`: the pairs from place i on are those of the entries from i on, in order.
use mathlib.Core.Path.{◌≡◌}
use Rattle.model.specs.Entries.{entry_len}
use Rattle.model.specs.declared.Size.{Size}
use Rattle.table.proofs.Listed.{Ordering}
use Rattle.table.proofs.put_order.Given as goal

abbrev pub invariant-loop-i : goal.invariant-loop-i
invariant-loop-i l = (s : Size) → l.len ≡ entry_len s → Ordering s l.count l.store l.i l.out
