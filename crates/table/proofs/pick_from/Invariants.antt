-- `table::pick_from`: what is picked from the pairs from i on is the pick.
use mathlib.Core.Path.{◌≡◌}
use Rattle.model.specs.Floats.{float, zero_bits}
use Rattle.model.specs.Table.{pick_from}
use Rattle.table.specs.Pairs.{pairs}
use Rattle.table.proofs.Totals.{picked}
use Rattle.table.proofs.pick_from.Given as goal

abbrev pub invariant-loop-i : goal.invariant-loop-i
invariant-loop-i l = picked l.draw l.m l.order l.total l.last l.i ≡ pick_from l.draw (float zero_bits) 0 (pairs l.m l.order)
