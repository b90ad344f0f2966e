-- A refusal, or the entries kept.
use Rattle.std.proofs.Common.{sym, ap, ◌∙◌}
use Rattle.model.specs.Calls as Calls
use Rattle.model.specs.Calls.{held, gave, answer_of, no_counts}
use Rattle.model.specs.declared.Answer.{Answer}
use Rattle.model.specs.declared.Header.{Header}
use Rattle.model.proofs.Steps.{front-refuses, front-passes, refusal}
use Rattle.model.proofs.Sound.{front-sound, front-cutoff}
use Rattle.model.proofs.Known.{stepped}
use Rattle.weights.proofs.Moving.{cut_loss, truncate-own, truncate-0}
use Rattle.weights.proofs.calls.truncate_known.Goals as goal

pub returns-then-number-ne0 : goal.returns-then-number-ne0
returns-then-number-ne0 c =
    let x = held c.args.h c.args.store.now in
    stepped Calls.truncate c.args.known x _ _ c.requires (refusal x _ c.plain_answer.ensures (front-refuses Calls.truncate x 0 _ (truncate-own x) c.front-number.ensures c.if-number-ne0.true))

pub truncate_entries-cut-requires : goal.truncate_entries-cut-requires
truncate_entries-cut-requires c =
    let x = held c.args.h c.args.store.now in
    let passed = sym c.front-number.ensures ∙ c.if-number-ne0.false in
    ((front-sound x 0 passed).packed, front-cutoff x 0 passed)

pub returns : goal.returns
returns c =
    let x = held c.args.h c.args.store.now in
    let t = c.truncate_entries-cut in
    stepped Calls.truncate c.args.known x _ _ c.requires
    (ap (λ (a : Answer). gave a t.new.store) (c.without_counts.ensures ∙ ap (λ (h : Header). answer_of 0 h no_counts (cut_loss t.result.taken) 0 0) c.header_with.ensures)
    ∙ sym (front-passes Calls.truncate x 0 _ (truncate-own x) c.front-number.ensures c.if-number-ne0.false ∙ truncate-0 x t.ensures))
