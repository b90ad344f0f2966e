use Rattle.likeness.proofs.Value.{hit-after}
use Rattle.likeness.proofs.value_at.Goals as goal

pub returns-in-Some : goal.returns-in-Some
returns-in-Some c = hit-after c.in-Some.ensures c.found.ensures

pub returns-in-Some-walk_on : goal.returns-in-Some-walk_on
returns-in-Some-walk_on c = hit-after c.in-Some-walk_on.ensures c.found-in-Some-walk_on.ensures
