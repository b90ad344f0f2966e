-- `nearest::less`: what is left to compare gives the whole.
use mathlib.Core.Path.{◌≡◌}
use mathlib.Core.Bool.{false}
use lib.ListN.{drop}
use Rattle.nearest.proofs.Large.{next-byte, below_end, below-is}
use Rattle.nearest.proofs.Large as large
use Rattle.nearest.proofs.less.Given as goal

abbrev pub invariant-loop-i : goal.invariant-loop-i
invariant-loop-i l = large.below l.below (drop l.i l.a) (drop l.i l.b) ≡ large.below false l.a l.b
