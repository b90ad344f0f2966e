-- The first i places are filled.
use Rattle.std.proofs.Common.{◌≡◌, map, take, length}
use Rattle.step_pass.proofs.tried.channels_of.Given as goal

abbrev pub invariant-loop-i : goal.invariant-loop-i
invariant-loop-i l = record {
  long : length l.channels ≡ 64;
  filled : take l.i l.channels ≡ map (λ s. s.channel) (take l.i l.steps);
}
