-- `sheet::put_line`: what was written, the fields that are left and the line's end give the line.
use mathlib.Core.Path.{◌≡◌}
use mathlib.Core.List.{[], ◌∷◌, ◌++◌, map}
use Prim.Native.Nat.{◌*◌}
use lib.ListN.{length, take, drop}
use Rattle.model.specs.Lists.{joined}
use Rattle.model.specs.Sheet.{field, line, line_end}
use Rattle.sheet.proofs.put_line.Given as goal

abbrev pub invariant-loop-j : goal.invariant-loop-j
invariant-loop-j l = (length l.out ≡ length l.initial.out) × (take (21 * l.j) l.out ++ (joined (map field (drop l.j l.fields)) ++ line_end ∷ []) ≡ line l.fields)
