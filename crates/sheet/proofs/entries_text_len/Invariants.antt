-- `sheet::entries_text_len`: the bytes counted and those of the entries that are left are all.
use mathlib.Core.Path.{◌≡◌}
use mathlib.Core.List.{map}
use Prim.Native.Nat.{◌+◌, ◌*◌, ◌≤◌}
use lib.ListN.{length}
use Rattle.model.specs.Entries.{listed, strip}
use Rattle.sheet.specs.Text.{entries_text}
use Rattle.sheet.proofs.Text.{text-left}
use Rattle.sheet.proofs.entries_text_len.Given as goal

abbrev pub invariant-loop-i : goal.invariant-loop-i
invariant-loop-i l = (l.bytes ≤ l.i * 12352) × (l.bytes + length (text-left l.size l.count l.store l.i) ≡ length (entries_text l.size.n (map strip (listed l.size l.count l.store))))
