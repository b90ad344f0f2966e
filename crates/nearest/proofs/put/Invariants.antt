-- `nearest::put` meets its contract: m is what is carried into a product by 0. The loop's invariant is that of `times`.
use mathlib.Core.Path.{◌≡◌}
use lib.ListN.{length}
use Rattle.nearest.proofs.Large.{product, Multiplied}
use Rattle.nearest.proofs.put.Given as goal

abbrev pub invariant-loop-byte : goal.invariant-loop-byte
invariant-loop-byte l = (length l.a ≡ length l.initial.a) × Multiplied 0 (product 0 l.m l.initial.a) l.byte-index l.rest l.a
