-- The loop's invariant: the OR of the words passed, and those that are left, say whether all are 0.
use Rattle.std.proofs.Common.{◌≡◌, ◌&&◌, nat_eq, drop}
use Rattle.model.specs.Numbers.{all_zero}
use Rattle.checks.proofs.all_zero.Given as goal

abbrev pub invariant-loop-word : goal.invariant-loop-word
invariant-loop-word l = (nat_eq l.any 0 && all_zero (drop l.word-index l.part)) ≡ all_zero l.part
