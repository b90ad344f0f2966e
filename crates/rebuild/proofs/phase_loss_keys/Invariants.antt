-- The loop's invariant: the first i keys are worked out.
use Rattle.rebuild.specs.Saved.{phase_loss_key_at}
use Rattle.rebuild.proofs.Worked.{Worked}
use Rattle.rebuild.proofs.phase_loss_keys.Given as goal

abbrev pub invariant-loop-i : goal.invariant-loop-i
invariant-loop-i l = Worked (phase_loss_key_at l.size l.store) l.i l.found
