-- What an accepted channel leaves, or a refusal and the store as it was.
use mathlib.Core.Path.{sym, ap, ap₂, ◌∙◌}
use Rattle.model.specs.Calls.{held, gave, plain_answer}
use Rattle.model.specs.declared.Answer.{Answer}
use Rattle.model.proofs.Sound.{sound-few}
use Rattle.noise.specs.Finish.{left_by}
use Rattle.noise.proofs.Ran.{at_least, undone, number-not-0, ran-accepted, ran-refused}
use Rattle.noise.proofs.run_ready.Goals as goal

pub spread-p-requires-clause-packed : goal.spread-p-requires-clause-packed
spread-p-requires-clause-packed c = (c.requires.sound.packed, sound-few _ _ _ c.requires.sound)

pub undo-requires : goal.undo-requires
unfolding left_by
undo-requires c =
    let h = c.args.h in
    let p = c.spread-p in
    (c.in-Err.ensures.packed, at_least h.size h.count c.args.store.now h.threshold h.cutoff c.args.arms p.result _ p.ensures.2, p.ensures.0)

pub returns-in-Ok-clause-store_after : goal.returns-in-Ok-clause-store_after
returns-in-Ok-clause-store_after c =
    let a = c.args in
    let p = c.spread-p in
    λ n h.
    ap (λ (r : Answer). gave r c.finish.new.store) c.answer.ensures
    ∙ ran-accepted (held a.h a.store.now) a.arms n h p.result _ p.ensures.2 c.in-Ok.cut _ c.in-Ok.ensures

pub returns-in-Err-clause-dirty_value : goal.returns-in-Err-clause-dirty_value
unfolding plain_answer
returns-in-Err-clause-dirty_value c =
    λ z. absurd (number-not-0 c.in-Err.refusal (sym c.number.ensures ∙ sym (ap (λ (r : Answer). r.number) c.plain_answer.ensures) ∙ z))

pub returns-in-Err-clause-store_after : goal.returns-in-Err-clause-store_after
unfolding left_by
returns-in-Err-clause-store_after c =
    let a = c.args in
    let h = a.h in
    let p = c.spread-p in
    let f = c.in-Err.ensures in
    let u = c.undo.ensures in
    let back = undone h.size h.count a.store.now h.threshold h.cutoff a.arms p.result _ p.ensures.2 c.in-Err.refusal _ f _ _ p.ensures.1 c.requires.sound.packed u.0 u.1 in
    λ n s. ap₂ gave (c.plain_answer.ensures ∙ ap (plain_answer h) c.number.ensures) back ∙ ran-refused (held h a.store.now) a.arms n s p.result _ p.ensures.2 c.in-Err.refusal _ f
