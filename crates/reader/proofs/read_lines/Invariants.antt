-- `reader::read_lines`: what stands before line i's words is the words of the lines before it.
use mathlib.Core.Path.{◌≡◌}
use Prim.Native.Nat.{◌*◌}
use lib.ListN.{length, take}
use Rattle.model.specs.Lists.{joined}
use Rattle.reader.specs.Reading.{lines_on}
use Rattle.reader.proofs.read_lines.Given as goal

abbrev pub invariant-loop-i : goal.invariant-loop-i
invariant-loop-i l = (length l.out ≡ length l.initial.out) × (take (3 * l.i) l.out ≡ joined (take l.i (lines_on l.text)))
