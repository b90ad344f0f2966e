use mathlib.Core.Path.{◌≡◌, sym, ap, ◌∙◌}
use Prim.Native.Nat.{ℕ}
use Rattle.model.specs.Calls as Calls
use Rattle.model.specs.Calls.{Lent, Left, held, answer_of, no_counts, step, acted}
use Rattle.model.specs.Store.{no_loss}
use Rattle.model.proofs.Steps.{front-refuses, front-passes}
use Rattle.model.proofs.Sound.{front-sound}
use Rattle.answers.proofs.Looked.{refused-answer}
use Rattle.table.proofs.Answers.{pick-own, pick-9, pick-10, pick-0}
use Rattle.table.proofs.pick_known.Goals as goal

pub returns-then-number-ne0 : goal.returns-then-number-ne0
returns-then-number-ne0 c =
    refused-answer (held c.args.h c.args.store.now) _ c.plain_answer.ensures
    (front-refuses (Calls.pick c.args.draw) (held c.args.h c.args.store.now) 0 _ (pick-own (held c.args.h c.args.store.now) c.args.draw) c.front-number.ensures c.if-number-ne0.true)

pub returns-then-count-eq0 : goal.returns-then-count-eq0
returns-then-count-eq0 c =
    let passed : step (Calls.pick c.args.draw) (held c.args.h c.args.store.now) ≡ acted (Calls.pick c.args.draw) (held c.args.h c.args.store.now) = front-passes (Calls.pick c.args.draw) (held c.args.h c.args.store.now) 0 _ (pick-own (held c.args.h c.args.store.now) c.args.draw) c.front-number.ensures c.if-number-ne0.false in
    refused-answer (held c.args.h c.args.store.now) 9 c.plain_answer-then-count-eq0.ensures (passed ∙ pick-9 (held c.args.h c.args.store.now) c.args.draw c.if-count-eq0.true)

pub returns-then-not-draw_sound : goal.returns-then-not-draw_sound
returns-then-not-draw_sound c =
    let passed : step (Calls.pick c.args.draw) (held c.args.h c.args.store.now) ≡ acted (Calls.pick c.args.draw) (held c.args.h c.args.store.now) = front-passes (Calls.pick c.args.draw) (held c.args.h c.args.store.now) 0 _ (pick-own (held c.args.h c.args.store.now) c.args.draw) c.front-number.ensures c.if-number-ne0.false in
    refused-answer (held c.args.h c.args.store.now) 10 c.plain_answer-then-not-draw_sound.ensures
    (passed ∙ pick-10 (held c.args.h c.args.store.now) c.args.draw c.if-count-eq0.false (sym c.draw_sound.ensures ∙ c.if-not-draw_sound.true))

pub pick_place-place-requires : goal.pick_place-place-requires
pick_place-place-requires c = front-sound (held c.args.h c.args.store.now) 0 (sym c.front-number.ensures ∙ c.if-number-ne0.false)

pub returns : goal.returns
returns c =
    let passed : step (Calls.pick c.args.draw) (held c.args.h c.args.store.now) ≡ acted (Calls.pick c.args.draw) (held c.args.h c.args.store.now) = front-passes (Calls.pick c.args.draw) (held c.args.h c.args.store.now) 0 _ (pick-own (held c.args.h c.args.store.now) c.args.draw) c.front-number.ensures c.if-number-ne0.false in
    let x = (held c.args.h c.args.store.now) in
    c.looked_answer.ensures
    ∙ ap (λ (k : ℕ). answer_of 0 x.header no_counts no_loss k 0) c.pick_place-place.ensures
    ∙ sym (ap (λ (l : Left). l.answer) (passed ∙ pick-0 x c.args.draw c.if-count-eq0.false (sym c.draw_sound.ensures ∙ c.if-not-draw_sound.false)))
