-- v places are settled, and the order picks the entries that it picked at first.
use mathlib.Core.Path.{◌≡◌}
use Rattle.model.specs.Sound.{Packed}
use Rattle.places.specs.Places.{picked}
use Rattle.places.specs.Settled.{Settled}
use Rattle.places.proofs.arrange.Given as goal

abbrev pub invariant-loop-v : goal.invariant-loop-v
invariant-loop-v l = Packed l.size l.count l.store × Settled l.count l.many l.v l.order l.holds × (picked l.size l.many l.order l.store ≡ picked l.size l.many l.initial.order l.initial.store)
