-- The fresh rows, written one after the other: what stands before row r is the rows below r. Assumes nothing.
use mathlib.Core.Path.{◌≡◌, refl, ap, ap₂, ◌∙◌}
use mathlib.Core.Bool.{Bool, true, false, cond}
use mathlib.Core.List.{List, [], ◌∷◌, ◌++◌}
use Prim.Native.Nat.{ℕ, ◌+◌, ◌*◌, ◌-◌, ◌%◌, ◌^◌, ◌<◌, ◌≤◌}
use native.Mathlib.Nat.{one-mul}
use native.Mathlib.Numerals.{add-one}
use native.Mathlib.Omega.{arith}
use lib.Dec.{ltb}
use lib.ListN.{length, take, drop, set, length-append}
use lib.Pow.{shl_exact}
use lib.Seq.{sets-eq, take_at, length-take-le}
use borrow.Author.Tests.{lt-ltb, le-ltb}
use Rattle.model.specs.Lists.{words_below}
use Rattle.model.specs.Entries.{Row, rows_below}
use Rattle.model.specs.Calls.{fresh_row}

-- 1 << q
pub one_shl : (q : ℕ) → q < 64 → 1 * 2 ^ q % 2 ^ 64 ≡ 2 ^ q
one_shl q h = shl_exact 1 q 64 (omega arith) (omega arith) ∙ one-mul (2 ^ q)

module _ (n r : ℕ) where
  pub x-row : r < n → record { x = 2 ^ r; z = 0; phase = 0 } ≡ fresh_row n r
  unfolding fresh_row
  x-row h = rw (lt-ltb r n h)

  pub z-row : n ≤ r → record { x = 0; z = 2 ^ (r - n); phase = 0 } ≡ fresh_row n r
  unfolding fresh_row
  z-row h = rw (le-ltb r n h)

  pub no-phase : 0 ≡ (fresh_row n r).phase
  unfolding fresh_row
  no-phase = either (ltb r n) _ _ refl refl
    where
      either : (b : Bool) (p q : Row) → 0 ≡ p.phase → 0 ≡ q.phase → 0 ≡ (cond b p q).phase
      either true p q h k = h
      either false p q h k = k

-- one row more
pub row_written : (f : ℕ → Row) (r x z p : ℕ) (w : List ℕ) → 3 * r + 3 ≤ length w → x ≡ (f r).x → z ≡ (f r).z → p ≡ (f r).phase → take (3 * r) w ≡ rows_below f r
    → take (3 * (r + 1)) (set (set (set w (3 * r) x) (3 * r + 1) z) (3 * r + 2) p) ≡ rows_below f (r + 1)
unfolding words_below
row_written f r x z p w h ex ez ep e =
    let words = x ∷ z ∷ p ∷ [] in
    let front : length (take (3 * r) w ++ words) ≡ 3 * (r + 1) =
    length-append (take (3 * r) w) words ∙ ap (λ (k : ℕ). k + 3) (length-take-le (3 * r) w (omega arith)) ∙ (omega arith) in
    ap₂ (λ (i j : ℕ). take (3 * (r + 1)) (set (set (set w (3 * r) x) i z) j p)) (add-one (3 * r)) (omega arith)
    ∙ ap (take (3 * (r + 1))) (sets-eq words w (3 * r) h)
    ∙ take_at (take (3 * r) w ++ words) (drop (3 * r + 3) w) (3 * (r + 1)) front
    ∙ rw (e, ex, ez, ep, add-one)
