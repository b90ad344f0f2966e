-- Coefficients whose indices rise: none is repeated. Assumes nothing.
use Rattle.std.specs.Prelude.{ℕ, ◌+◌, ◌-◌, Bool, List, ltb}
use Rattle.model.specs.Lists.{all_below}
use Rattle.model.specs.Entries.{index_at}

-- the first `count` indices rise
unfoldable pub rising : List ℕ → ℕ → Bool
rising coefs count = all_below (λ j. ltb (index_at coefs j) (index_at coefs (j + 1))) (count - 1)
