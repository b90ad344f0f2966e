-- Two of a list, exchanged. Assumes nothing.
use Rattle.std.specs.Prelude.{ℕ, List, get_or, set}

-- those at places a and b; d stands for one past the end
unfoldable pub exchanged : {X : Type 0} → X → ℕ → ℕ → List X → List X
exchanged d a b l = set (set l a (get_or l b d)) b (get_or l a d)
