-- A live entry's weight is scaled, and no other word.
use mathlib.Core.Path.{sym, ap, ◌∙◌}
use lib.Ieee.{Float}
use Rattle.model.specs.Floats.{bits, times}
use Rattle.spread.proofs.Scaled.{scaled-live, scaled-lost}
use Rattle.spread.proofs.scale_entry.Goals as goal

pub returns-then-is_live : goal.returns-then-is_live
returns-then-is_live c = scaled-live c.args.size c.args.shape c.args.keep c.args.e.now c.requires.0 (sym c.is_live.ensures ∙ c.if-is_live.true) (c.bits_of.ensures ∙ ap (λ (x : Float). bits (times x c.args.keep)) c.float_of.ensures)

pub returns-else-is_live : goal.returns-else-is_live
returns-else-is_live c = scaled-lost c.args.size c.args.shape c.args.keep c.args.e.now c.requires.0 (sym c.is_live.ensures ∙ c.if-is_live.false)
