-- The first difference makes the two unlike.
use mathlib.Core.Path.{◌≡◌, sym, ◌∙◌}
use mathlib.Core.Bool.{Bool, true, false}
use lib.ListN.{get_or}
use borrow.Author.Tests.{eqb-true, eqb-false, ne_eqb}
use Rattle.model.specs.Entries.{entry_of, body_in}
use Rattle.likeness.proofs.Alike.{unlike-loss, unlike-count}
use Rattle.seeking.proofs.Rows.{changed, loss-is, count-is, coefs-is, unlike-rows, alike-rows}
use Rattle.seeking.proofs.alike_changed.Goals as goal
use Rattle.seeking.proofs.alike_changed.Goals.{then-e-loss_after, else-e-loss_after, then-e-parent, else-e-parent}

not_both : {b : Bool} → b ≡ true → b ≡ false → ⊥
not_both p q = cc

pub coefficients_near-requires-clause-e_value : goal.coefficients_near-requires-clause-e_value
unfolding entry_of
coefficients_near-requires-clause-e_value c =
    elim c.if-e-parent.branch [
      | then-e-parent w ↦
          elim c.if-e-loss_after.branch [ then-e-loss_after v ↦ (eqb-true _ _ (sym v.value-is ∙ w.if-e-parent.true), c.requires.parent_bound.0) | else-e-loss_after v ↦ absurd (not_both w.if-e-parent.true (v.value-is ∙ ne_eqb _ _ v.if-e-loss_after.false)) ]
      | else-e-parent w ↦ absurd (not_both c.if-rows_same.true (w.value-is ∙ w.if-e-parent.false))
    ]

pub returns-then-rows_same : goal.returns-then-rows_same
unfolding entry_of
returns-then-rows_same c =
    let a = c.args in
    let p = a.parent.now in
    let l = c.requires.within.2 in
    elim c.if-e-parent.branch [
      | then-e-parent w ↦
          elim c.if-e-loss_after.branch [
            | then-e-loss_after v ↦
                let loss = v.if-e-loss_after.true ∙ c.loss_after.ensures ∙ sym (loss-is a.size a.m p l) in
                let same : get_or a.e.now 4 0 ≡ get_or p 4 0 = eqb-true _ _ (sym v.value-is ∙ w.if-e-parent.true) in
                let rows = sym (w.rows_same.ensures a.m c.requires.parent_bound.2) ∙ sym w.value-is ∙ c.if-rows_same.true in
                c.coefficients_near.ensures
                ∙ sym (alike-rows a.size a.threshold (body_in a.size a.e.now) (changed a.size a.m p) loss (same ∙ sym (count-is a.size a.m p l)) (body_in a.size p) (coefs-is a.size a.m p l) (count-is a.size a.m p l) rows)
            | else-e-loss_after v ↦ absurd (not_both w.if-e-parent.true (v.value-is ∙ ne_eqb _ _ v.if-e-loss_after.false))
          ]
      | else-e-parent w ↦ absurd (not_both c.if-rows_same.true (w.value-is ∙ w.if-e-parent.false))
    ]

pub returns-else-rows_same : goal.returns-else-rows_same
unfolding entry_of
returns-else-rows_same c =
    let a = c.args in
    let p = a.parent.now in
    let l = c.requires.within.2 in
    elim c.if-e-loss_after.branch [
      | then-e-loss_after v ↦
          let loss = v.if-e-loss_after.true ∙ c.loss_after.ensures ∙ sym (loss-is a.size a.m p l) in
          elim c.if-e-parent.branch [
            | then-e-parent w ↦
                let same : get_or a.e.now 4 0 ≡ get_or p 4 0 = eqb-true _ _ (sym v.value-is ∙ w.if-e-parent.true) in
                let rows = sym (w.rows_same.ensures a.m c.requires.parent_bound.2) ∙ sym w.value-is ∙ c.if-rows_same.false in
                c.if-rows_same.false
                ∙ sym (unlike-rows a.size a.threshold (body_in a.size a.e.now) (changed a.size a.m p) loss (same ∙ sym (count-is a.size a.m p l)) rows)
            | else-e-parent w ↦
                c.if-rows_same.false
                ∙ sym (unlike-count a.size a.threshold (body_in a.size a.e.now) (changed a.size a.m p) (λ g. eqb-false _ _ (sym v.value-is ∙ w.if-e-parent.false) (g ∙ count-is a.size a.m p l)))
          ]
      | else-e-loss_after v ↦
          c.if-rows_same.false
          ∙ sym (unlike-loss a.size a.threshold (body_in a.size a.e.now) (changed a.size a.m p) (λ g. v.if-e-loss_after.false (g ∙ loss-is a.size a.m p l ∙ sym c.loss_after.ensures)))
    ]
