-- `sheet::put_lines`: what was written and the lines that are left give the whole.
use mathlib.Core.Path.{◌≡◌}
use mathlib.Core.List.{◌++◌, map}
use Prim.Native.Nat.{◌*◌}
use lib.ListN.{length, take, drop}
use Rattle.model.specs.Lists.{groups, joined}
use Rattle.model.specs.Sheet.{line}
use Rattle.sheet.proofs.put_lines.Given as goal

abbrev pub invariant-loop-i : goal.invariant-loop-i
invariant-loop-i l = (length l.out ≡ length l.initial.out) × (take (64 * l.i) l.out ++ joined (map line (drop l.i (groups 3 l.m l.words))) ≡ joined (map line (groups 3 l.m l.words)))
