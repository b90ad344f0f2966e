-- The loop's invariant: what is left to test gives the whole.
use Rattle.std.proofs.Common.{◌≡◌, drop}
use Rattle.model.specs.Lists.{every}
use Rattle.model.specs.Numbers.{entries_sound}
use Rattle.checks.specs.Sound.{entry_sound}
use Rattle.checks.proofs.Words.{stripped}
use Rattle.checks.proofs.entries_sound.Given as goal

abbrev pub invariant-loop-i : goal.invariant-loop-i
invariant-loop-i l = every (entry_sound l.size) (drop l.i (stripped l.size l.count l.store)) ≡ entries_sound l.size (stripped l.size l.count l.store)
