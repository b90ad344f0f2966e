-- What makes two bodies alike, and what makes them unlike: any one difference does. Assumes nothing.
use mathlib.Core.Path.{◌≡◌, ◌∙◌, sym}
use Prim.Native.Nat.{ℕ, ◌+◌, ◌<◌}
use mathlib.Core.Bool.{Bool, true, false, and-false}
use mathlib.Core.List.{List}
use lib.Dec.{eqb}
use lib.Ieee.{Float}
use lib.ListN.{get_or}
use borrow.Author.Tests.{eq-eqb, ne_eqb}
use Rattle.model.specs.Lists.{all_below}
use Rattle.model.specs.Entries.{Body, rows_len}
use Rattle.model.specs.Likeness.{square, near_at, same_rows, alike}
use Rattle.model.specs.declared.Size.{Size}
use Rattle.model.proofs.Lists.{all_none, all_more, all-not}
use Rattle.likeness.specs.Near.{NearAs, NearBelow}

-- word j of two lists of rows is the same
abbrev pub same_at : List ℕ → List ℕ → ℕ → Bool
same_at v w j = eqb (get_or v j 0) (get_or w j 0)

module _ (s : Size) (threshold : Float) (a b : Body) where
  pub unlike-loss : (a.loss ≡ b.loss → ⊥) → alike s threshold a b ≡ false
  unfolding alike
  unlike-loss h = rw (alike, ne_eqb a.loss b.loss)

  pub unlike-count : (a.count ≡ b.count → ⊥) → alike s threshold a b ≡ false
  unfolding alike
  unlike-count h = rw (alike, ne_eqb a.count b.count) (simp and-false)

  pub unlike-value : (j : ℕ) → j < a.count → near_at (square threshold) a b j ≡ false → alike s threshold a b ≡ false
  unfolding alike
  unlike-value j l h = rw (alike, all-not (near_at (square threshold) a b) a.count j l h) (simp and-false)

  -- j rows' words and m coefficients passed are all of them
  pub alike_all : a.loss ≡ b.loss → a.count ≡ b.count → (j m : ℕ) → j ≡ rows_len s → m ≡ a.count
      → all_below (same_at a.rows b.rows) j ≡ true → all_below (near_at (square threshold) a b) m ≡ true → alike s threshold a b ≡ true
  unfolding alike same_rows
  alike_all hl hc j m ej em hr hv =
      rw (alike, same_rows, eq-eqb a.loss b.loss, eq-eqb a.count b.count, rw ej at hr, rw em at hv)

-- what a loop over `near_at` has shown so far
module _ (limit : Float) (existing other : List ℕ) (count : ℕ) where
  pub near_none : NearBelow limit existing other count 0
  near_none a b ea eb ec = all_none (near_at limit a b)

  pub near-more : (m : ℕ) (r : Bool) → NearAs limit existing other count m r → r ≡ true → NearBelow limit existing other count m
      → NearBelow limit existing other count (m + 1)
  near-more m r near t h a b ea eb ec = all_more (near_at limit a b) m (h a b ea eb ec) (sym (near a b ea eb ec) ∙ t)
