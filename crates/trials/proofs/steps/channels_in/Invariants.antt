-- The first i are those of the slices.
use Rattle.std.proofs.Common.{◌≡◌, length, take}
use Rattle.trials.specs.Steps.{channels_in}
use Rattle.trials.proofs.steps.channels_in.Given as goal

abbrev pub invariant-loop-i : goal.invariant-loop-i
invariant-loop-i l = (length l.all ≡ 64) × (take l.i l.all ≡ take l.i (channels_in l.kinds l.rates))
