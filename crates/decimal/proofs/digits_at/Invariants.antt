-- `decimal::digits_at`: what is left to read gives the whole.
use mathlib.Core.Path.{◌≡◌}
use Prim.Native.Nat.{max, ◌≤◌}
use lib.ListN.{length}
use Rattle.decimal.specs.Bounds.{largest, run_at}
use Rattle.decimal.proofs.Runs.{left}
use Rattle.decimal.proofs.digits_at.Given as goal

abbrev pub invariant-loop-at : goal.invariant-loop-at
invariant-loop-at l = (l.value ≤ largest) × (l.at ≤ max l.from (length l.text)) × (left l.text l.at l.value l.large ≡ run_at l.text l.from l.before)
