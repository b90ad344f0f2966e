-- `table::count_above`: the number asked for lies from low to high.
use Prim.Native.Nat.{◌-◌, ◌≤◌}
use Rattle.model.specs.Floats.{float}
use Rattle.table.specs.Pairs.{pairs, heavier}
use Rattle.table.proofs.count_above.Given as goal

abbrev pub invariant-loop-low : goal.invariant-loop-low
invariant-loop-low l = (l.high ≤ l.m) × (l.low ≤ heavier (float l.weight) (pairs l.m l.part)) × (heavier (float l.weight) (pairs l.m l.part) ≤ l.high)

abbrev pub decreases-loop-low : goal.decreases-loop-low
decreases-loop-low l = l.high - l.low
