-- `page::put_page`: the lines of the first i entries are written.
use mathlib.Core.List.{map}
use Prim.Native.Nat.{◌*◌}
use lib.ListN.{length, take}
use Rattle.model.specs.Entries.{strip, listed}
use Rattle.model.specs.Page.{page_line_len, page_text}
use Rattle.page.proofs.Pieces.{Begins}
use Rattle.page.proofs.put_page.Given as goal

abbrev pub invariant-loop-i : goal.invariant-loop-i
invariant-loop-i l = Begins (length l.initial.out) (l.i * page_line_len) (page_text (take l.i (map strip (listed l.size l.count l.store)))) l.out
