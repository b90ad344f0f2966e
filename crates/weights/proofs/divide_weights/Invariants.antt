-- The loop's invariant: the weights of the first i entries are divided.
use Rattle.std.proofs.Common.{◌≡◌}
use Rattle.model.specs.Entries.{entry_len}
use Rattle.model.specs.Store.{keyed_weighed}
use Rattle.model.specs.Sum.{divided_by}
use Rattle.model.specs.Sound.{Packed}
use Rattle.model.specs.declared.Size.{Size}
use Rattle.entries.proofs.Turns.{Done}
use Rattle.weights.proofs.divide_weights.Given as goal

abbrev pub invariant-loop-i : goal.invariant-loop-i
invariant-loop-i l = (s : Size) → l.len ≡ entry_len s → Packed s l.count l.initial.store → Done s l.count (λ k. divided_by keyed_weighed l.by) l.i l.initial.store l.store
