use Rattle.std.proofs.Common.{sym, ◌∙◌}
use Rattle.model.specs.Calls.{held}
use Rattle.checks.proofs.First.{front-shape, front-own, front-words}
use Rattle.checks.proofs.front.Goals as goal

pub returns-then-number-ne0 : goal.returns-then-number-ne0
returns-then-number-ne0 c = front-shape _ (held c.args.h c.args.store.now) _ c.shape_number-number.ensures c.if-number-ne0.true

pub returns-then-own-ne0 : goal.returns-then-own-ne0
returns-then-own-ne0 c = front-own _ (held c.args.h c.args.store.now) (sym c.shape_number-number.ensures ∙ c.if-number-ne0.false) c.if-own-ne0.true

pub returns-then-words_sound : goal.returns-then-words_sound
returns-then-words_sound c =
    front-words _ (held c.args.h c.args.store.now) (sym c.shape_number-number.ensures ∙ c.if-number-ne0.false) c.if-own-ne0.false (sym c.if-words_sound.true ∙ c.words_sound.ensures)

pub returns-else-words_sound : goal.returns-else-words_sound
returns-else-words_sound c =
    front-words _ (held c.args.h c.args.store.now) (sym c.shape_number-number.ensures ∙ c.if-number-ne0.false) c.if-own-ne0.false (sym c.if-words_sound.false ∙ c.words_sound.ensures)
