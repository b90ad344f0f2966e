-- `nearest::quotient`: the quotient is `low` at least, and below `high`.
use mathlib.Core.Path.{◌≡◌}
use Prim.Native.Nat.{◌*◌, ◌-◌, ◌^◌, ◌≤◌, ◌<◌}
use lib.ListN.{length}
use Rattle.nearest.specs.Large.{value_of}
use Rattle.nearest.proofs.quotient.Given as goal

abbrev pub invariant-loop-low : goal.invariant-loop-low
invariant-loop-low l =
    (length l.room ≡ length l.b) × (l.low < l.high) × (l.high ≤ 2 ^ 53) × (value_of l.b * l.low ≤ value_of l.a) × (value_of l.a < value_of l.b * l.high)

abbrev pub decreases-loop-low : goal.decreases-loop-low
decreases-loop-low l = l.high - l.low
