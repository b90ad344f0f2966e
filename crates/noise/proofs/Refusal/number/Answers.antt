use mathlib.Core.Path.{refl}
use Rattle.noise.specs.Finish.{number_of}
use Rattle.noise.proofs.Refusal.number.Goals as goal

pub returns-in-NoRoom : goal.returns-in-NoRoom
unfolding number_of
returns-in-NoRoom c = rw c.in-NoRoom.is refl

pub returns-in-TotalZero : goal.returns-in-TotalZero
unfolding number_of
returns-in-TotalZero c = rw c.in-TotalZero.is refl
