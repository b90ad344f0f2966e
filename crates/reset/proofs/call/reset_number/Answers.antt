use mathlib.Core.Path.{sym, ◌∙◌}
use Rattle.model.specs.Calls.{held, reset}
use Rattle.model.proofs.Steps.{by_front}
use Rattle.reset.proofs.Livened.{own_is, fit}
use Rattle.reset.proofs.call.reset_number.Goals as goal

pub returns-clause-may_reset : goal.returns-clause-may_reset
returns-clause-may_reset c = λ z. fit (held c.args.h c.args.store.now) c.args.q _ c.test-own.ensures (sym c.front.ensures ∙ z)

pub returns-clause-store_value : goal.returns-clause-store_value
returns-clause-store_value c =
    let x = held c.args.h c.args.store.now in
    by_front (reset c.args.q) x _ _ (c.test-own.ensures ∙ own_is x c.args.q) c.front.ensures
