-- `sheet::put_entries`: what was written and the text of the entries that are left give the whole.
use mathlib.Core.Path.{◌≡◌}
use mathlib.Core.List.{◌++◌, map}
use Prim.Native.Nat.{◌+◌}
use lib.ListN.{length, take}
use Rattle.model.specs.Entries.{listed, strip}
use Rattle.sheet.specs.Text.{entries_text}
use Rattle.sheet.proofs.Text.{text-left}
use Rattle.sheet.proofs.put_entries.Given as goal

abbrev pub invariant-loop-i : goal.invariant-loop-i
invariant-loop-i l = (length l.out ≡ length l.initial.out) × (l.at + length (text-left l.size l.count l.store l.i) ≡ length l.initial.out) × (take l.at l.out ++ text-left l.size l.count l.store l.i ≡ entries_text l.size.n (map strip (listed l.size l.count l.store)))
