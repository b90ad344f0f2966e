use mathlib.Core.Path.{◌≡◌, refl, sym}
use mathlib.Core.Bool.{Bool, true, false, ◌&&◌, ◌||◌}
use lib.Ieee.{Float, lt, le, eq}
use Rattle.model.specs.Floats.{float, zero_bits, one_bits, up_to}
use Rattle.model.specs.Numbers.{draw_sound}
use Rattle.model.proofs.Lists.{and-false}
use Rattle.table.proofs.draw_sound.Goals as goal

below-1 : (b c : Bool) → ((b || c) && b) ≡ b
below-1 true c = refl
below-1 false c = and-false c

judged : (d : Float) → le (float zero_bits) d ≡ true → lt d (float one_bits) ≡ draw_sound d
unfolding draw_sound up_to le
judged d h = rw h (sym (below-1 (lt d (float one_bits)) (eq d (float one_bits))))

pub returns-then-draw : goal.returns-then-draw
returns-then-draw c = judged c.args.draw c.if-draw.true

pub returns-else-draw : goal.returns-else-draw
unfolding draw_sound up_to
returns-else-draw c = rw c.if-draw.false
