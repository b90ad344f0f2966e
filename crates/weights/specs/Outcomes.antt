-- What normalising and truncating leave in a store. Assumes nothing.
use Rattle.std.specs.Prelude.{◌≡◌, Bool, false, cond, List, ℕ, Float}
use Rattle.model.specs.Entries.{listed}
use Rattle.model.specs.Store.{keyed_weighed}
use Rattle.model.specs.Sum.{done, refused, normalised, cut_to, truncated}
use Rattle.model.specs.declared.Size.{Size}
use Rattle.model.specs.Sound.{Packed}
use Rattle.weights.specs.declared.Cut.{Cut}

-- w was normalised to w', or refused with 9 and no changed word
pub record Normalised (s : Size) (count : ℕ) (w : List ℕ) (r : Bool) (w' : List ℕ) : Type 0 where
  pub packed : Packed s count w'
  pub result : normalised keyed_weighed (listed s count w) ≡ cond r (done (listed s count w')) (refused 9)
  pub unchanged : r ≡ false → w' ≡ w

-- w was truncated to w', as r says
pub record Truncated (s : Size) (count : ℕ) (cutoff : Float) (w : List ℕ) (r : Cut) (w' : List ℕ) : Type 0 where
  pub packed : Packed s r.left w'
  pub result : truncated keyed_weighed cutoff (listed s count w) ≡ done (cut_to keyed_weighed r.taken (listed s r.left w'))
