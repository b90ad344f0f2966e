-- A store's words in a scratch. Assumes nothing.
use mathlib.Core.Path.{◌≡◌, ap, ◌∙◌}
use mathlib.Core.List.{List, ◌++◌, append-nil}
use Prim.Native.Nat.{ℕ, ◌-◌, ◌≤◌}
use native.Mathlib.Nat.{sub_self}
use native.Mathlib.Omega.{arith}
use lib.ListN.{length, take, replicate, length-append, length-replicate}
use lib.Seq.{take_at, length-take-le}
use borrow.Author.Tests.{le-ltb}
use Rattle.calls.specs.Stores.{laid, copied}

module _ (w : List ℕ) where
  pub laid-length : (room : ℕ) → length w ≤ room → length (laid room w) ≡ room
  unfolding laid
  laid-length room h = length-append w (replicate (room - length w) 0) ∙ simp length-replicate (omega arith)

  -- in as many words
  pub laid_same : laid (length w) w ≡ w
  unfolding laid
  laid_same = rw (sub_self (length w)) (append-nil w)

  module _ (s : List ℕ) where
    -- in the first `room` words, which are then lent once more
    pub copy-lent : (room : ℕ) → length w ≤ room → room ≤ length s
        → {copy : List ℕ} → copy ≡ copied w (take room s) → (rest : List ℕ) → take room (copy ++ rest) ≡ laid room w
    unfolding copied
    copy-lent room h k e rest =
        let front = length-take-le room s k in
        let is : copied w (take room s) ≡ laid room w = rw (front, le-ltb room (length w) h) in
        ap (λ (l : List ℕ). take room (l ++ rest)) (e ∙ is) ∙ take_at (laid room w) rest room (laid-length room h)
