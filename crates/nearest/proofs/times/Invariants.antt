-- `nearest::times`: the first i bytes are those of the product, and the carry is for the others.
--
use mathlib.Core.Path.{◌≡◌}
use Prim.Native.Nat.{◌≤◌}
use lib.ListN.{length}
use Rattle.nearest.proofs.Large.{product, Multiplied}
use Rattle.nearest.proofs.times.Given as goal

abbrev pub invariant-loop-byte : goal.invariant-loop-byte
invariant-loop-byte l = (length l.a ≡ length l.initial.a) × (l.carry ≤ l.factor) × Multiplied l.factor (product l.factor 0 l.initial.a) l.byte-index l.carry l.a
