-- The loop's invariant: what stands before row r is the fresh rows below r.
use Rattle.std.proofs.Common.{◌≡◌, ◌*◌, take}
use Rattle.model.specs.Entries.{rows_below}
use Rattle.model.specs.Calls.{fresh_row}
use Rattle.fresh.proofs.fresh_rows.Given as goal

abbrev pub invariant-loop-r : goal.invariant-loop-r
invariant-loop-r l = take (3 * l.r) l.rows ≡ rows_below (fresh_row l.n) l.r
