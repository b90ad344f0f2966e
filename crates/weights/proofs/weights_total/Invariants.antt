-- The loop's invariant: the weights from entry i on, added to the sum, give the total.
use Rattle.std.proofs.Common.{◌≡◌, drop}
use Rattle.model.specs.Entries.{entry_len, listed}
use Rattle.model.specs.Store.{keyed_weighed}
use Rattle.model.specs.Sum.{added_to, total}
use Rattle.model.specs.declared.Size.{Size}
use Rattle.weights.proofs.weights_total.Given as goal

abbrev pub invariant-loop-i : goal.invariant-loop-i
invariant-loop-i l = (s : Size) → l.len ≡ entry_len s → added_to keyed_weighed l.sum (drop l.i (listed s l.count l.store)) ≡ total keyed_weighed (listed s l.count l.store)
