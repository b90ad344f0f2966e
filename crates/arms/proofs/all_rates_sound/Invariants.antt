-- The loop's invariant: what is left to test gives the whole.
use Rattle.std.proofs.Common.{◌≡◌, drop}
use Rattle.model.specs.Lists.{every}
use Rattle.model.specs.Floats.{float, one_bits, up_to}
use Rattle.arms.proofs.all_rates_sound.Given as goal

abbrev pub invariant-loop-i : goal.invariant-loop-i
invariant-loop-i l = every (up_to (float one_bits)) (drop l.i l.rates) ≡ every (up_to (float one_bits)) l.rates
