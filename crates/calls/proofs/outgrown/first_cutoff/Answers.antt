-- 2^-60 is no NaN.
use lib.Ieee.{nan_bits}
use Rattle.calls.proofs.outgrown.first_cutoff.Goals as goal

pub float_from_bits-least : goal.float_from_bits-least
unfolding nan_bits
float_from_bits-least c = tt
