-- Coefficients that are the same in two lists. Assumes nothing.
use Rattle.std.specs.Prelude.{ℕ, ◌<◌, ◌≡◌, true, List}
use Rattle.model.specs.Floats.{float, finite}
use Rattle.model.specs.Entries.{index_at, re_at, im_at}

-- coefficient j is the same in both, word by word, and finite
pub record SameFinite (x y : List ℕ) (j : ℕ) : Type 0 where
  pub index : index_at x j ≡ index_at y j
  pub re : re_at x j ≡ re_at y j
  pub im : im_at x j ≡ im_at y j
  pub re_finite : finite (float (re_at y j)) ≡ true
  pub im_finite : finite (float (im_at y j)) ≡ true

-- the first m are
pub record SameBelow (x y : List ℕ) (m : ℕ) : Type 0 where
  pub same : (j : ℕ) → j < m → SameFinite x y j
