-- `nearest::climb`: v is multiplied k times and is at most n, and the room holds the next product.
--
use mathlib.Core.Path.{◌≡◌}
use Prim.Native.Nat.{◌+◌, ◌*◌, ◌-◌, ◌^◌, ◌≤◌, ◌<◌}
use lib.ListN.{length}
use Rattle.nearest.specs.Large.{value_of}
use Rattle.nearest.proofs.climb.Given as goal

abbrev pub invariant-loop-v : goal.invariant-loop-v
invariant-loop-v l =
    (length l.v ≡ length l.n) × (length l.room ≡ length l.n) × (0 < value_of l.v) × (value_of l.v ≤ value_of l.n) × (value_of l.room ≡ value_of l.v * l.factor) × (value_of l.v ≡ value_of l.initial.v * l.factor ^ l.k)

abbrev pub decreases-loop-v : goal.decreases-loop-v
decreases-loop-v l = value_of l.n + 1 - value_of l.v
