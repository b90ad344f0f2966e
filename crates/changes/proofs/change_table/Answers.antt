use Rattle.std.proofs.Common.{◌*◌, arith}
use Rattle.changes.proofs.ChangeTables.{masks-fewer, low-few, table_is}
use Rattle.changes.proofs.change_table.Goals as goal

pub walk_rows-a-requires : goal.walk_rows-a-requires
walk_rows-a-requires c = let l = low-few _ (omega arith) c.low_rows-middle.ensures in (omega arith, omega arith, omega arith, omega arith, omega arith)

pub walk_rows-b-requires : goal.walk_rows-b-requires
walk_rows-b-requires c = let l = low-few _ (omega arith) c.low_rows-middle.ensures in (omega arith, omega arith, omega arith, omega arith, omega arith)

pub returns : goal.returns
returns c =
    let args = c.args in
    let e = c.low_rows-middle.ensures in
    let l = low-few args.n (omega arith) e in
    λ s k.
    table_is s args.n args.rows.now args.q (rw e at (c.walk_rows-a.ensures s (masks-fewer s (2 * args.n) c.low_rows-middle.result (omega arith) k)))
    (rw e at (c.walk_rows-b.ensures s k))
