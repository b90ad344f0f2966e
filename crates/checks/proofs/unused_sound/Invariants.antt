-- The loop's invariant: the OR says whether the places passed are sound.
use Rattle.std.proofs.Common.{◌≡◌, nat_eq}
use Rattle.model.specs.Lists.{all_below}
use Rattle.model.specs.Numbers.{coef_sound}
use Rattle.checks.proofs.unused_sound.Given as goal

abbrev pub invariant-loop-j : goal.invariant-loop-j
invariant-loop-j l = nat_eq l.any 0 ≡ all_below (coef_sound l.count l.coefs) l.j
