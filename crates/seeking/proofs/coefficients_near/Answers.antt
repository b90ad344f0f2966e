use mathlib.Core.Path.{◌≡◌, ◌∙◌, sym}
use native.Mathlib.Omega.{arith}
use borrow.Author.Rules.{rules}
use Rattle.model.specs.Entries.{entry_of, body_in}
use Rattle.model.specs.Likeness.{near_at, square}
use Rattle.model.proofs.Lists.{all-not}
use Rattle.model.proofs.Entries.{coefs-part}
use Rattle.likeness.proofs.Alike.{near-more}
use Rattle.seeking.proofs.Rows.{coefs-length}
use Rattle.seeking.proofs.coefficients_near.Goals as goal

pub near_unread-j-requires : goal.near_unread-j-requires
unfolding entry_of
near_unread-j-requires c =
    let a = c.args in
    let r = c.requires in
    (omega (arith, coefs-length a.size a.e.now r.within.1), omega (arith, coefs-length a.size a.parent.now r.within.2))

pub near_at-requires : goal.near_at-requires
unfolding entry_of
near_at-requires c =
    let a = c.args in
    let r = c.requires in
    (omega (arith, coefs-length a.size a.e.now r.within.1), omega (arith, coefs-length a.size a.parent.now r.within.2))

pub loop-j-preserved : goal.loop-j-preserved
loop-j-preserved c = near-more _ _ _ _ c.loop-j.j _ c.near_at.ensures (search rules) c.loop-j.invariant

pub returns-then-not-near_at : goal.returns-then-not-near_at
unfolding entry_of
returns-then-not-near_at c =
    let a = c.args in
    let l = c.loop-j in
    let near = c.near_at.ensures (body_in a.size a.e.now) (body_in a.size a.parent.now) (coefs-part a.size a.e.now) (coefs-part a.size a.parent.now) (sym c.requires.e_value.0) in
    sym (all-not (near_at (square a.threshold) (body_in a.size a.e.now) (body_in a.size a.parent.now)) (body_in a.size a.e.now).count l.j (omega arith) (sym near ∙ c.if-not-near_at.true))

pub returns : goal.returns
unfolding entry_of
returns c =
    let a = c.args in
    let l = c.loop-j in
    let e : l.j ≡ (body_in a.size a.e.now).count = omega arith in
    sym (rw e at (l.invariant (body_in a.size a.e.now) (body_in a.size a.parent.now) (coefs-part a.size a.e.now) (coefs-part a.size a.parent.now) (sym c.requires.e_value.0)))
