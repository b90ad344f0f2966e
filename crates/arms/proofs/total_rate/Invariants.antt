-- The loop's invariant: the rates passed, added up.
use Rattle.std.proofs.Common.{◌≡◌}
use Rattle.model.specs.Floats.{float, zero_bits}
use Rattle.model.specs.Channels.{folded_to}
use Rattle.arms.specs.Arms.{arms_below}
use Rattle.arms.proofs.total_rate.Given as goal

abbrev pub invariant-loop-a : goal.invariant-loop-a
invariant-loop-a l = l.t ≡ folded_to (float zero_bits) (arms_below l.arms l.a)
