-- 3 if a qubit is not below n, else what the test of the rates gives.
use mathlib.Core.Path.{sym, ◌∙◌}
use Rattle.arms.proofs.Qubits.{all-below}
use Rattle.noise.proofs.Noised.{misplaced, placed}
use Rattle.noise.proofs.calls.own_number.Goals as goal

pub returns-then-outside-clause-value : goal.returns-then-outside-clause-value
returns-then-outside-clause-value c = λ n h m. misplaced _ _ n h c.outside.ensures c.if-outside.true

pub returns-clause-shape_below : goal.returns-clause-shape_below
returns-clause-shape_below c = λ z. all-below _ _ (sym c.outside.ensures ∙ c.if-outside.false)

pub returns-clause-value : goal.returns-clause-value
returns-clause-value c = λ n h m. c.test.ensures ∙ placed _ _ n h c.outside.ensures c.if-outside.false (c.rates_refused.ensures n h m)
