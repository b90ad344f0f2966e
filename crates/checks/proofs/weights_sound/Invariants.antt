-- The loop's invariant, for every size of which `len` is the entry length: what is left to test gives the whole.
use Rattle.std.proofs.Common.{◌≡◌, drop}
use Rattle.model.specs.Entries.{entry_len}
use Rattle.model.specs.Lists.{every}
use Rattle.model.specs.Numbers.{weight_sound, weights_sound}
use Rattle.model.specs.declared.Size.{Size}
use Rattle.checks.proofs.Words.{stripped}
use Rattle.checks.proofs.weights_sound.Given as goal

abbrev pub invariant-loop-i : goal.invariant-loop-i
invariant-loop-i l = (s : Size) → l.len ≡ entry_len s → every (λ e. weight_sound e.weight) (drop l.i (stripped s l.count l.store)) ≡ weights_sound (stripped s l.count l.store)
