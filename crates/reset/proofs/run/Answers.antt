use mathlib.Core.Path.{ap, ◌∙◌}
use Rattle.model.specs.Calls.{held, gave, accepted}
use Rattle.model.specs.declared.Answer.{Answer}
use Rattle.model.proofs.Sound.{sound-few, rebuilt-few}
use Rattle.reset.proofs.Leaves.{was-reset}
use Rattle.reset.proofs.run.Goals as goal

pub merge_lost-p-requires : goal.merge_lost-p-requires
merge_lost-p-requires c =
    let r = c.ready.ensures in
    (r.0, rebuilt-few _ _ c.args.store.now _ c.args.h.dirty r.1 (sound-few _ _ _ c.requires.sound), c.requires.qubit)

pub returns : goal.returns
unfolding accepted
returns c =
    let m = c.merge_lost-p in
    ap (λ (r : Answer). gave r m.new.store) c.answer.ensures ∙ was-reset (held c.args.h c.args.store.now) c.args.q _ c.ready.ensures.1 m.result _ m.ensures
