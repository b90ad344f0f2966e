-- The invariant: h is the sum of the loss masks of the lost qubits below q.
use Rattle.std.proofs.Common.{◌≡◌}
use Rattle.model.specs.Keys.{bit, mask_xor}
use Rattle.keys.proofs.loss_key.Given as goal

abbrev pub invariant-loop-q : goal.invariant-loop-q
invariant-loop-q l = l.h ≡ mask_xor l.salts.loss l.q (λ j. bit j l.loss)
