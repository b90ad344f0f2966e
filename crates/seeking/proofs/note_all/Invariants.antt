-- The keys of the entries below i are noted.
use Rattle.seeking.specs.Noted.{seen_at, Noted}
use Rattle.seeking.proofs.note_all.Given as goal

abbrev pub invariant-loop-i : goal.invariant-loop-i
invariant-loop-i l = Noted l.i (seen_at l.size l.places l.store) l.keys l.firsts
