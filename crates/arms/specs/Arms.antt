-- The branches that the struct `Arms` stands for. Assumes nothing.
use Rattle.std.specs.Prelude.{ℕ, zero, suc, ◌+◌, ◌/◌, ◌%◌, ◌<◌, ◌≤◌, ◌≡◌, List, [], ◌∷◌, ◌++◌, get_or}
use Rattle.std.specs.Float.{nan}
use Rattle.model.specs.Channels.{Noise, Arm, arm, arms, qubits}
use Rattle.model.specs.declared.Pauli.{Pauli}
use Rattle.model.specs.declared.Pauli.TheVariants.{I, X, Y, Z}
use Rattle.model.specs.declared.BranchMutation.{BranchMutation}
use Rattle.model.specs.declared.BranchMutation.TheVariants.{Pauli as pauli, Pair as pair, Loss as loss}
use Rattle.arms.specs.declared.Shape.{Shape}
use Rattle.arms.specs.declared.Shape.TheVariants.{One, Lose, Two}
use Rattle.arms.specs.declared.Arms.{Arms}

unfoldable pub pauli_at : ℕ → Pauli
pauli_at zero = I
pauli_at (suc zero) = X
pauli_at (suc (suc zero)) = Y
pauli_at (suc (suc (suc i))) = Z

-- branch a: X, Y, Z; the pairs IX, IY, IZ, XI, ..
unfoldable pub mutation_at : Shape → ℕ → BranchMutation
mutation_at (One q) a = pauli (pauli_at ((a + 1) % 4)) q
mutation_at (Lose q) a = loss q
mutation_at (Two p q) a = pair (pauli_at ((a + 1) / 4)) p (pauli_at ((a + 1) % 4)) q

abbrev pub arm_at : Arms → ℕ → Arm
arm_at r a = arm (get_or r.rates a nan) (mutation_at r.shape a)

-- the first m of them
unfoldable pub arms_below : Arms → ℕ → List Arm
arms_below r zero = []
arms_below r (suc m) = arms_below r m ++ arm_at r m ∷ []

unfoldable pub arms_list : Arms → List Arm
arms_list r = arms_below r r.count

-- ---- the qubits that a shape names

unfoldable pub shape_qubits : Shape → List ℕ
shape_qubits (One q) = q ∷ []
shape_qubits (Lose q) = q ∷ []
shape_qubits (Two p q) = p ∷ q ∷ []

-- each is below m
abbrev pub ShapeBelow : ℕ → Shape → Type 0
ShapeBelow m (One q) = q < m
ShapeBelow m (Lose q) = q < m
ShapeBelow m (Two p q) = (p < m) × (q < m)

-- the branches of a noise, and its qubits
pub record Stands (r : Arms) (c : Noise) : Type 0 where
  pub few : r.count ≤ 15
  pub rates : arms_list r ≡ arms c
  pub places : shape_qubits r.shape ≡ qubits c
