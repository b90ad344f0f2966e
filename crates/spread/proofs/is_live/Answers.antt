-- By the shape that the match found.
use mathlib.Core.Path.{◌≡◌, sym, ap, ◌∙◌}
use mathlib.Core.Bool.{Bool}
use mathlib.Core.Logic.{⊎_elim}
use Prim.Native.Nat.{ℕ}
use Rattle.arms.specs.declared.Shape.{Shape}
use Rattle.arms.specs.declared.Shape.TheVariants.{One, Lose}
use Rattle.arms.specs.Arms.{shape_qubits}
use Rattle.spread.specs.Branches.{live_at}
use Rattle.spread.proofs.is_live.Goals as goal

of-case : {t : Bool} {h o : Shape} (loss : ℕ) → h ≡ o → t ≡ live_at o loss → t ≡ live_at h loss
of-case loss e p = p ∙ ap (λ (h : Shape). live_at h loss) (sym e)

pub returns-in-One : goal.returns-in-One
unfolding live_at shape_qubits
returns-in-One c =
    ⊎_elim
    (λ (e : c.args.shape ≡ One c.in-One.q). of-case c.args.loss e c.is_live.ensures)
    (λ (e : c.args.shape ≡ Lose c.in-One.q). of-case c.args.loss e c.is_live.ensures)
    c.in-One.is

pub returns-in-Two : goal.returns-in-Two
unfolding live_at shape_qubits
returns-in-Two c = of-case c.args.loss c.in-Two.is c.both_live.ensures
