use mathlib.Core.Path.{sym, ap, ◌∙◌}
use mathlib.Core.Bool.{not}
use Rattle.noise.proofs.Noised.{by_total, by-rate}
use Rattle.noise.proofs.calls.rates_refused.Goals as goal

pub returns-then-not-named : goal.returns-then-not-named
returns-then-not-named c = λ n h e. ap not c.if-not-named.true ∙ by-rate n (sym c.if-not-named.true ∙ e)

pub returns-else-not-named : goal.returns-else-not-named
returns-else-not-named c = λ n h e. by_total _ n h c.total_rate.ensures (sym c.if-not-named.false ∙ e)
