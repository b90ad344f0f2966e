-- `sheet::put_number`: the columns before i, written with what is left of v, and those from i on give the number.
use mathlib.Core.Path.{◌≡◌}
use mathlib.Core.List.{◌++◌}
use Prim.Native.Nat.{◌<◌}
use lib.ListN.{length, drop}
use Rattle.model.specs.Sheet.{leading, justified}
use Rattle.sheet.proofs.put_number.Given as goal

abbrev pub invariant-loop-i : goal.invariant-loop-i
invariant-loop-i l = (l.i < length l.out) × (length l.out ≡ length l.initial.out) × (leading l.i l.rest ++ drop l.i l.out ≡ justified (length l.initial.out) l.v)
