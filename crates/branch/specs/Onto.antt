-- Words written over a stretch of a list. Assumes nothing.
use Rattle.std.specs.Prelude.{ℕ, ◌+◌, List, [], ◌∷◌, ◌++◌, length, take, drop, get_or}
use Rattle.std.specs.Int.Bits.{bit_xor}
use Rattle.model.specs.declared.BranchMutation.{BranchMutation}
use Rattle.branch.specs.Flips.{loss_after}

-- the words x in place of those from `to` on
unfoldable pub onto : ℕ → List ℕ → List ℕ → List ℕ
onto to x w = take to w ++ (x ++ drop (to + length x) w)

-- `len` words from `from` on
abbrev pub part : ℕ → ℕ → List ℕ → List ℕ
part from len w = take len (drop from w)

-- the first five words of the branch of the entry that begins at `from`
abbrev pub head_words : BranchMutation → (weight delta from : ℕ) → List ℕ → List ℕ
head_words m weight delta from w =
    weight ∷ loss_after m (get_or w (from + 1) 0) ∷ get_or w (from + 2) 0 ∷ bit_xor (get_or w (from + 3) 0) delta ∷ get_or w (from + 4) 0 ∷ []
