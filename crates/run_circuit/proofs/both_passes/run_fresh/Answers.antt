-- Of an accepted fresh sum all but the weights is known to be sound.
use Rattle.std.proofs.Common.{◌≡◌, sym, ap, subst, ◌∙◌, List, ℕ}
use Rattle.model.specs.Calls.{Left, Start, start}
use Rattle.model.specs.Known.{Checked}
use Rattle.model.specs.Demand3.{next}
use Rattle.model.proofs.Known.{start-checked}
use Rattle.run_circuit.proofs.both_passes.run_fresh.Goals as goal

-- what an accepted start left
left-checked : (l : Left) (b : Start) (w : List ℕ) → l ≡ start b w → l.answer.number ≡ 0 → Checked (next l)
left-checked l b w e z = subst (λ (l : Left). Checked (next l)) (sym e) (start-checked b w (sym (ap (λ (l : Left). l.answer.number) e) ∙ z))

pub run_from-requires : goal.run_from-requires
run_from-requires c = left-checked _ _ _ c.fresh-a.ensures c.if-a-ne0.false
