use Rattle.model.specs.Numbers.{rates}
use Rattle.noise.proofs.calls.two_qubit_pauli_error_known.Goals as goal

pub returns : goal.returns
unfolding rates
returns c = c.call.ensures _ c.pair_arms.ensures c.all_rates_sound-named.ensures
