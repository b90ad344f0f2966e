-- One law for each of its answers.
use Rattle.std.proofs.Common.{sym, ap, ◌∙◌}
use lib.Ieee.{Float, eq}
use Rattle.model.specs.Floats.{float, zero_bits}
use Rattle.weights.proofs.Normalised.{none, no-total, divided}
use Rattle.weights.proofs.normalise_entries.Goals as goal

pub returns-then-count-eq0 : goal.returns-then-count-eq0
returns-then-count-eq0 c = none c.requires c.if-count-eq0.true

pub returns-then-sum : goal.returns-then-sum
returns-then-sum c = no-total c.requires c.if-count-eq0.false (ap (λ (t : Float). eq t (float zero_bits)) (sym c.weights_total-sum.ensures) ∙ c.if-sum.true)

pub returns : goal.returns
returns c =
    divided c.requires c.if-count-eq0.false (ap (λ (t : Float). eq t (float zero_bits)) (sym c.weights_total-sum.ensures) ∙ c.if-sum.false) (rw (← c.weights_total-sum.ensures) c.divide_weights.ensures)
