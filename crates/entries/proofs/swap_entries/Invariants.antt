-- The loop's invariant: j words of the two entries are exchanged, all else is as it was.
use Rattle.entries.proofs.Exchange.{Exchanging}
use Rattle.entries.proofs.swap_entries.Given as goal

abbrev pub invariant-loop-j : goal.invariant-loop-j
invariant-loop-j l = Exchanging l.len l.count l.a l.b l.initial.store l.j l.store
