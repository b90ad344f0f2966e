-- What numbers 1, 2 and 5 leave of a sum: the soundness that the layers below the calls ask for. Assumes nothing.
use Rattle.std.specs.Prelude.{ℕ, ◌*◌, ◌≤◌, ◌<◌, ◌≡◌, true, List, map, length}
use Rattle.model.specs.Entries.{strip, entry_len, entry_of, stretch, listed, past_count}
use Rattle.model.specs.Numbers.{max_qubits, max_coefficients, max_capacity, weights_sound, bodies_sound, all_zero}
use Rattle.model.specs.declared.Size.{Size}

-- a number from 1 to m
pub record From1 (m x : ℕ) : Type 0 where
  pub low : 1 ≤ x
  pub high : x ≤ m

-- 1: a size that a store of `len` words has
pub record Sized (s : Size) (len : ℕ) : Type 0 where
  pub qubits : From1 max_qubits s.n
  pub coefficients : From1 max_coefficients s.k
  pub capacity : From1 max_capacity s.capacity
  pub words : len ≡ s.capacity * entry_len s

-- .. and 2, and the slots past the count are 0: the store holds its list and nothing else
pub record Packed (s : Size) (count : ℕ) (w : List ℕ) : Type 0 where
  pub sized : Sized s (length w)
  pub room : count ≤ s.capacity
  pub zeros : all_zero (past_count s count w) ≡ true

-- A SOUND SUM: .. and 5
pub record Sound (s : Size) (count : ℕ) (w : List ℕ) : Type 0 where
  pub packed : Packed s count w
  pub weights : weights_sound (map strip (listed s count w)) ≡ true
  pub bodies : bodies_sound s (map strip (listed s count w)) ≡ true

-- of which a search needs: no listed entry has more coefficients than K
abbrev pub FewCoefficients : Size → ℕ → List ℕ → Type 0
FewCoefficients s count w = (i : ℕ) → i < count → (entry_of s (stretch s w i)).entry.body.count ≤ s.k
