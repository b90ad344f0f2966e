-- A refusal, or the channel itself; what is known is known afterwards, once the step is made.
use mathlib.Core.Path.{sym, ◌∙◌}
use Rattle.model.specs.Calls.{held, noise, acted}
use Rattle.model.proofs.Steps.{turned-away, let_through, refusal}
use Rattle.model.proofs.Known.{stepped}
use Rattle.noise.proofs.calls.call.Goals as goal

pub returns-then-number-ne0 : goal.returns-then-number-ne0
returns-then-number-ne0 c =
    let a = c.args in
    let x = held a.h a.store.now in
    λ n h m.
    stepped (noise n) a.known x _ _ c.requires.1 (refusal x _ c.plain_answer.ensures (c.noise_number-number.ensures.store_value n h m ∙ turned-away x _ (acted (noise n) x) c.if-number-ne0.true))

pub returns : goal.returns
returns c =
    let a = c.args in
    let x = held a.h a.store.now in
    λ n h m. stepped (noise n) a.known x _ _ c.requires.1 (c.run.ensures n h ∙ sym (c.noise_number-number.ensures.store_value n h m ∙ let_through x _ (acted (noise n) x) c.if-number-ne0.false))
