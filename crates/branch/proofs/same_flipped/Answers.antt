use Rattle.std.proofs.Common.{◌≡◌, ℕ, ◌*◌, sym, ap, ◌∙◌, arith}
use native.Mathlib.Nat.{sub-zero}
use Rattle.model.specs.Lists.{all_below}
use Rattle.model.proofs.Lists.{all_none}
use Rattle.changes.specs.Changes.{flip_bits}
use Rattle.branch.proofs.Flips.{bit-twice, first-left, rest-left}
use Rattle.branch.proofs.Same.{same_at, row_next}
use Rattle.branch.proofs.same_flipped.Goals as goal

pub loop-i-init : goal.loop-i-init
loop-i-init c =
    let a = c.args in
    λ m q. (q ∙ ap (flip_bits m a.p.now 0) (sym (sub-zero a.rows)), sym (all_none (same_at a.e.now a.p.now a.rows m)))

pub loop-i-preserved : goal.loop-i-preserved
loop-i-preserved c =
    let l = c.loop-i in
    let a = c.args in
    λ m q.
    let left = (l.invariant m q).0 in (
      rest-left m a.p.now l.i a.rows (omega arith) left,
      row_next a.e.now a.p.now a.rows m l.i (omega arith) l.x l.z l.phase (bit-twice m a.p.now l.i (first-left m a.p.now l.i a.rows (omega arith) left)) (l.invariant m q).1,
    )

pub returns : goal.returns
returns c =
    let l = c.loop-i in
    let a = c.args in
    let e : l.i ≡ a.rows = omega arith in
    λ m q. (l.invariant m q).1 ∙ ap (λ (i : ℕ). all_below (same_at a.e.now a.p.now a.rows m) (3 * i)) e
