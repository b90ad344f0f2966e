-- The pass goes on unless too much is lost.
use Rattle.std.proofs.Common.{refl, sym, subst}
use Rattle.second_pass.specs.Lines.{After, goes_on_after, too_much_lost}
use Rattle.second_pass.proofs.second.with_totals.Goals as goal

pub returns-then-most-lost : goal.returns-then-most-lost
returns-then-most-lost c = let e = c.ended.ensures in (subst (After 0) (sym e.0) (too_much_lost refl), e.1, e.2)

pub returns : goal.returns
returns c = (subst (After 0) (sym c.requires) (goes_on_after refl), refl, refl)
