-- What number 1 leaves of a size. Assumes nothing.
use Rattle.std.specs.Prelude.{◌≤◌}
use Rattle.model.specs.Numbers.{max_qubits, max_coefficients}
use Rattle.model.specs.declared.Size.{Size}

-- n and k are within their limits, so that an entry's length is small
pub record Within (s : Size) : Type 0 where
  pub qubits : s.n ≤ max_qubits
  pub coefficients : s.k ≤ max_coefficients
