-- One law for each of its answers.
use Rattle.std.proofs.Common.{sym, ap, ◌∙◌}
use Rattle.model.specs.Calls as Calls
use Rattle.model.specs.Calls.{held, gave}
use Rattle.model.specs.declared.Answer.{Answer}
use Rattle.model.proofs.Steps.{front-refuses, front-passes, refusal}
use Rattle.model.proofs.Sound.{front-sound}
use Rattle.model.proofs.Known.{stepped}
use Rattle.weights.proofs.Moving.{normalise-own, normalise-9, normalise-0}
use Rattle.weights.proofs.calls.normalise_known.Goals as goal

pub returns-then-number-ne0 : goal.returns-then-number-ne0
returns-then-number-ne0 c =
    let x = held c.args.h c.args.store.now in
    stepped Calls.normalise c.args.known x _ _ c.requires (refusal x _ c.plain_answer.ensures (front-refuses Calls.normalise x 0 _ (normalise-own x) c.front-number.ensures c.if-number-ne0.true))

pub normalise_entries-requires : goal.normalise_entries-requires
normalise_entries-requires c = (front-sound (held c.args.h c.args.store.now) 0 (sym c.front-number.ensures ∙ c.if-number-ne0.false)).packed

pub returns-then-normalise_entries : goal.returns-then-normalise_entries
returns-then-normalise_entries c =
    let x = held c.args.h c.args.store.now in
    let n = c.normalise_entries in
    stepped Calls.normalise c.args.known x _ _ c.requires
    (ap (λ (a : Answer). gave a n.new.store) c.plain_answer-then-normalise_entries.ensures
    ∙ sym (front-passes Calls.normalise x 0 _ (normalise-own x) c.front-number.ensures c.if-number-ne0.false ∙ normalise-0 x (rw c.if-normalise_entries.true at n.ensures)))

pub returns : goal.returns
returns c =
    let x = held c.args.h c.args.store.now in
    let n = c.normalise_entries in
    stepped Calls.normalise c.args.known x _ _ c.requires
    (ap (λ (a : Answer). gave a n.new.store) c.plain_answer-2.ensures
    ∙ sym (front-passes Calls.normalise x 0 _ (normalise-own x) c.front-number.ensures c.if-number-ne0.false ∙ normalise-9 x (rw c.if-normalise_entries.false at n.ensures)))
