-- `page::put_hexadecimal`: the digits before i, written with what is left of v, and those from i on give the number.
use mathlib.Core.Path.{◌≡◌}
use mathlib.Core.List.{◌++◌}
use lib.ListN.{length, drop}
use Rattle.model.specs.Page.{hexadecimal}
use Rattle.page.proofs.put_hexadecimal.Given as goal

abbrev pub invariant-loop-i : goal.invariant-loop-i
invariant-loop-i l = (length l.out ≡ length l.initial.out) × (hexadecimal l.i l.rest ++ drop l.i l.out ≡ hexadecimal (length l.initial.out) l.v)
