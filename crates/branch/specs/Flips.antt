-- What a mutation leaves of rows and of a loss word. Assumes nothing.
use Rattle.std.specs.Prelude.{ℕ, ◌^◌, List}
use Rattle.std.specs.Int.Bits.{bit_xor}
use Rattle.model.specs.Entries.{row_at, rows_below}
use Rattle.model.specs.Changes.{flipped_row}
use Rattle.model.specs.declared.BranchMutation.{BranchMutation}
use Rattle.model.specs.declared.BranchMutation.TheVariants.{Pauli as pauli, Pair as pair, Loss as loss}

-- these rows, with the phases that the mutation leaves
unfoldable pub flipped_rows : BranchMutation → ℕ → List ℕ → List ℕ
flipped_rows m rows p = rows_below (λ i. flipped_row m (row_at p i)) rows

-- the loss word of what a mutation makes
unfoldable pub loss_after : BranchMutation → ℕ → ℕ
loss_after (pauli p q) w = w
loss_after (pair p a o b) w = w
loss_after (loss q) w = bit_xor w (2 ^ q)
