-- The loop's invariant: the OR says whether the coefficients passed are sound.
use Rattle.std.proofs.Common.{◌≡◌}
use Rattle.model.specs.Lists.{all_below}
use Rattle.model.specs.Numbers.{fits_in, coef_sound}
use Rattle.checks.proofs.counted_sound.Given as goal

abbrev pub invariant-loop-j : goal.invariant-loop-j
invariant-loop-j l = fits_in 11 l.any ≡ all_below (coef_sound l.count l.coefs) l.j
