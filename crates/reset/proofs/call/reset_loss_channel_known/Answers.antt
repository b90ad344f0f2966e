-- A refusal, or the reset itself; what is known is known afterwards, once the step is made.
use mathlib.Core.Path.{sym, ◌∙◌}
use Rattle.model.specs.Calls.{held, reset, acted}
use Rattle.model.proofs.Steps.{turned-away, let_through, refusal}
use Rattle.model.proofs.Known.{stepped}
use Rattle.reset.proofs.call.reset_loss_channel_known.Goals as goal

pub returns-then-number-ne0 : goal.returns-then-number-ne0
returns-then-number-ne0 c =
    let a = c.args in
    let x = held a.h a.store.now in
    stepped (reset a.q) a.known x _ _ c.requires (refusal x _ c.plain_answer.ensures (c.reset_number-number.ensures.store_value ∙ turned-away x _ (acted (reset a.q) x) c.if-number-ne0.true))

pub returns : goal.returns
returns c =
    let a = c.args in
    let x = held a.h a.store.now in
    stepped (reset a.q) a.known x _ _ c.requires (c.run.ensures ∙ sym (c.reset_number-number.ensures.store_value ∙ let_through x _ (acted (reset a.q) x) c.if-number-ne0.false))
