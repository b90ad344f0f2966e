-- `table::put_totals`: the totals of the first i pairs are written, and the rest gives the others.
use Rattle.table.proofs.Totals.{Totalling}
use Rattle.table.proofs.put_totals.Given as goal

abbrev pub invariant-loop-i : goal.invariant-loop-i
invariant-loop-i l = Totalling l.initial.out l.m l.i l.total l.out
