use Rattle.std.proofs.Common.{◌≡◌, ℕ, drop, sym, ap, ◌∙◌, arith}
use native.Mathlib.Nat.{sub-zero}
use Rattle.changes.specs.Changes.{flip_bits}
use Rattle.branch.specs.Flips.{flipped_rows}
use Rattle.branch.specs.Onto.{onto}
use Rattle.branch.proofs.Flips.{bit-twice, first-left, rest-left}
use Rattle.branch.proofs.Onto.{made, rows_none, rows_next}
use Rattle.branch.proofs.copy_flipped.Goals as goal

pub loop-r-init : goal.loop-r-init
loop-r-init c =
    let a = c.args in
    λ m q. (q ∙ ap (flip_bits m (drop a.from a.store.now) 0) (sym (sub-zero a.rows)), rows_none a.from a.to a.store.now m)

pub loop-r-preserved : goal.loop-r-preserved
loop-r-preserved c =
    let a = c.args in
    let l = c.loop-r in
    let p = drop a.from a.store.now in
    λ m q.
    let left = (l.invariant m q).0 in (
      rest-left m p l.r a.rows (omega arith) left,
      rows_next a.from a.to a.store.now m l.r (l.invariant m q).1 (omega arith) (omega arith) (bit-twice m p l.r (first-left m p l.r a.rows (omega arith) left)),
    )

pub returns : goal.returns
unfolding flipped_rows
returns c =
    let a = c.args in
    let l = c.loop-r in
    let e : l.r ≡ a.rows = omega arith in
    λ m q. (l.invariant m q).1 ∙ ap (λ (i : ℕ). onto a.to (made a.from a.to a.store.now m i) a.store.now) e
