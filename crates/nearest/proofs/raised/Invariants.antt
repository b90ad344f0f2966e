-- `nearest::raised`: the number is multiplied by the factor i times.
use mathlib.Core.Path.{◌≡◌}
use Prim.Native.Nat.{◌*◌, ◌^◌}
use lib.ListN.{length}
use Rattle.nearest.specs.Large.{value_of}
use Rattle.nearest.proofs.raised.Given as goal

abbrev pub invariant-loop : goal.invariant-loop
invariant-loop l = (length l.a ≡ length l.initial.a) × (value_of l.a ≡ value_of l.initial.a * l.factor ^ l.counter)
