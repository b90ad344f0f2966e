-- A finite number less itself is 0, so a coefficient that is the same in both entries is near if 0 is below the limit. Assumes nothing.
use mathlib.Core.Path.{◌≡◌, refl, sym, ap, ap₂, ◌∙◌}
use mathlib.Core.Bool.{Bool, true, false, true≢false, cond, not, ◌&&◌}
use mathlib.Core.List.{List}
use Prim.Native.Nat.{ℕ, ◌-◌, ◌*◌, ◌<◌, ◌≤◌}
use native.Mathlib.Nat.{mul-pos}
use native.Mathlib.Omega.{arith}
use lib.Ieee.{Float, nan, inf, fin, binary64, up, down, of_bits, round, neg, sum, add, sub, mul, lt}
use lib.Ieee.Fits.{down_pos}
use borrow.Author.Tests.{le-ltb}
use Rattle.words.proofs.Rounded.{zero-rounded}
use Rattle.model.specs.Floats.{float, finite, plus, minus}
use Rattle.model.specs.Entries.{Body, index_at, re_at, im_at}
use Rattle.model.specs.Likeness.{value_at, Hit, square, near_at}
use Rattle.model.proofs.Lists.{all_of}
use Rattle.likeness.specs.Rising.{rising}
use Rattle.likeness.specs.Near.{NearBelow}
use Rattle.likeness.specs.Same.{SameFinite, SameBelow}
use Rattle.likeness.proofs.Rising.{hit-rising}
use Rattle.likeness.proofs.Value.{value-hit}

-- the two parts are level, and what is left of them has the sign of 0
level : (s : Bool) (a c : ℕ) → 0 < c → sum binary64 s a (not s) a c ≡ float 0
unfolding sum
level true a c p =
    ap (λ (t : Bool). cond t (round binary64 false (a - a) c) (round binary64 (true && t) (a - a) c)) (le-ltb a a (omega arith)) ∙ sym (zero-rounded (a - a) c (omega arith) p)
level false a c p =
    ap (λ (t : Bool). cond t (round binary64 true (a - a) c) (round binary64 false (a - a) c)) (le-ltb a a (omega arith)) ∙ sym (zero-rounded (a - a) c (omega arith) p)

less-itself : (x : Float) → finite x ≡ true → minus x x ≡ float 0
unfolding finite sub add neg
less-itself nan h = absurd (true≢false (sym h))
less-itself (inf s) h = absurd (true≢false (sym h))
less-itself (fin s m e) h = level s (m * up e * down e) (down e * down e) (mul-pos (down_pos e) (down_pos e))

no_distance : plus (square (float 0)) (square (float 0)) ≡ float 0
unfolding of_bits mul add
no_distance = refl

-- the comparison is the definition's
pub compared : (limit : Float) (a b : Body) (j : ℕ) {x y : List ℕ} {count : ℕ} {re im re' im' : Float}
    → a.coefs ≡ x → b.coefs ≡ y → b.count ≡ count
    → re ≡ float (re_at x j) → im ≡ float (im_at x j)
    → re' ≡ float (value_at re_at y (index_at x j) count) → im' ≡ float (value_at im_at y (index_at x j) count)
    → lt (plus (square (minus re re')) (square (minus im im'))) limit ≡ near_at limit a b j
unfolding near_at
compared limit a b j ea eb ec hr hi hr' hi' = rw (ea, eb, ec, hr, hi, hr', hi')

-- of a coefficient that is the same in both, and whose index no later one of the other has
compared_same : (limit : Float) (a b : Body) (j : ℕ) {x y : List ℕ} {count : ℕ}
    → a.coefs ≡ x → b.coefs ≡ y → b.count ≡ count → Hit y (index_at y j) count j → SameFinite x y j
    → lt (float 0) limit ≡ near_at limit a b j
compared_same limit a b j {x} {y} {count} ea eb ec r h =
    let value : (part : List ℕ → ℕ → ℕ) → value_at part y (index_at x j) count ≡ part y j = λ part. ap (λ (i : ℕ). value_at part y i count) h.index ∙ value-hit part y (index_at y j) count j r in
    ap (λ (z : Float). lt z limit) (sym no_distance)
    ∙ sym (ap₂ (λ (p q : Float). lt (plus (square p) (square q)) limit) (less-itself (float (re_at y j)) h.re_finite) (less-itself (float (im_at y j)) h.im_finite))
    ∙ compared limit a b j ea eb ec (ap float (sym h.re)) (ap float (sym h.im)) (ap float (sym (value re_at))) (ap float (sym (value im_at)))

-- ---- the first m are the same in both

module _ (x y : List ℕ) where
  -- and the other's indices rise
  pub same-near : (limit : Float) (count m : ℕ) → m ≤ count → SameBelow x y m → lt (float 0) limit ≡ true → rising y count ≡ true → NearBelow limit x y count m
  same-near limit count m l h above rises a b ea eb ec =
      all_of (near_at limit a b) m (λ j w. sym (compared_same limit a b j ea eb ec (hit-rising y count rises j (omega arith)) (h.same j w)) ∙ above)
