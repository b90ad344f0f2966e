-- The first j are back, and with those to come what is merged gives the whole.
use Rattle.reset.proofs.Brings.{Bringing}
use Rattle.reset.proofs.bring_all_back.Given as goal

abbrev pub invariant-loop-j : goal.invariant-loop-j
invariant-loop-j l = Bringing l.limits.size l.limits.threshold l.limits.cutoff l.q l.stay l.total l.initial.order l.left l.initial.store l.j l.p l.order l.store l.keys l.firsts
