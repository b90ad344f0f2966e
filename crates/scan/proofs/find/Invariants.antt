-- No place before i has the byte.
use Rattle.scan.specs.Finds.{Lacks}
use Rattle.scan.proofs.find.Given as goal

abbrev pub invariant-loop-i : goal.invariant-loop-i
invariant-loop-i l = Lacks l.bytes l.from l.i l.byte
