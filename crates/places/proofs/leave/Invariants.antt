-- Places i and up are done.
use Rattle.places.proofs.Walked.{Walked}
use Rattle.places.proofs.leave.Given as goal

abbrev pub invariant-loop-i : goal.invariant-loop-i
invariant-loop-i l = Walked l.fn.size l.count l.q l.store l.i l.stay l.out l.order l.left
