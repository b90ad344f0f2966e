-- No row is walked, or the rows of the two entries are lent and compared.
use mathlib.Core.Path.{sym}
use Prim.Native.Nat.{◌*◌, ◌≤◌}
use native.Mathlib.Omega.{arith}
use Rattle.model.specs.Lists.{all_below}
use Rattle.changes.proofs.Tables.{few-walked}
use Rattle.spread.proofs.same_at.Goals as goal

pub returns-then-walked-eq0 : goal.returns-then-walked-eq0
unfolding all_below
returns-then-walked-eq0 c = λ e. rw (sym c.walked_rows-walked.ensures, c.if-walked-eq0.true)

pub same_paulis-requires : goal.same_paulis-requires
same_paulis-requires c =
    let walked = c.walked_rows-walked in
    let few : walked.result ≤ 2 * c.args.size.n = omega (arith, walked.ensures, few-walked c.args.shape c.args.size.n) in
    (omega (arith, few, c.requires.0.qubits), omega (arith, few, c.rows_of-a.ensures.1), omega (arith, few, c.rows_of-b.ensures.1))
