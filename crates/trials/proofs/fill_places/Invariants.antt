-- What is written and as many places as are left give the whole.
use Rattle.std.proofs.Common.{◌≡◌, [], ◌∷◌, ◌++◌, ◌*◌, ◌-◌, take}
use Rattle.model.specs.Trials.{repeated}
use Rattle.trials.proofs.fill_places.Given as goal

abbrev pub invariant-loop-place : goal.invariant-loop-place
invariant-loop-place l =
    take (2 * l.place) l.places ++ repeated (l.count - l.place) (l.number ∷ l.entries ∷ []) ≡ take (2 * l.i) l.initial.places ++ repeated (l.count - l.i) (l.number ∷ l.entries ∷ [])
