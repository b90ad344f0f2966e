-- The first i rates are those of the call.
use Rattle.std.proofs.Common.{◌≡◌, length, take}
use Rattle.perform.specs.Encoding.{rates_in}
use Rattle.perform.proofs.rates.Given as goal

abbrev pub invariant-loop-i : goal.invariant-loop-i
invariant-loop-i l = (length l.all ≡ 15) × (take l.i l.all ≡ take l.i (rates_in l.call))
