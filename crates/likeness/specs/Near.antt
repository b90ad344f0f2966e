-- Coefficients that are near, said of the coefficients of two bodies alone. Assumes nothing.
use Rattle.std.specs.Prelude.{ℕ, ◌≡◌, Bool, true, List, Float}
use Rattle.model.specs.Lists.{all_below}
use Rattle.model.specs.Entries.{Body}
use Rattle.model.specs.Likeness.{near_at}

-- r says whether coefficient j of the existing one is near
abbrev pub NearAs : Float → (existing other : List ℕ) → (count j : ℕ) → Bool → Type 0
NearAs limit existing other count j r =
    (a b : Body) → a.coefs ≡ existing → b.coefs ≡ other → b.count ≡ count → r ≡ near_at limit a b j

-- the first m of the existing one are near
abbrev pub NearBelow : Float → (existing other : List ℕ) → (count m : ℕ) → Type 0
NearBelow limit existing other count m =
    (a b : Body) → a.coefs ≡ existing → b.coefs ≡ other → b.count ≡ count → all_below (near_at limit a b) m ≡ true
