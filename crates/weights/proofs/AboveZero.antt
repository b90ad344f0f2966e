-- Weights above a cutoff that is not below 0 have a total that is not 0: they are above 0, and no sum of them rounds to less than the smallest of
-- the format. Assumes nothing.
use mathlib.Core.Path.{◌≡◌, refl}
use mathlib.Core.Bool.{Bool, true, false, cond, not, ◌&&◌}
use mathlib.Core.List.{List, [], ◌∷◌, map}
use Prim.Native.Nat.{ℕ, zero, suc, ◌+◌, ◌*◌, ◌%◌, ◌^◌, ◌≤◌, ◌<◌}
use native.Mathlib.Nat.{le_trans, le-add_left, mul-le-mul, mul-le-mul_right, mul-pos, zero-mul, one-mul, zero-lt-suc}
use native.Mathlib.Omega.{arith}
use lib.IntN.{ℤ, pos}
use lib.Dec.{T, leb→le, eqb, ltb, leb, eqb→eq, ltb→lt, lt→ltb}
use lib.ListN.{length}
use lib.Ieee.{Float, nan, inf, fin, binary64, of_bits, up, down, low, prec, emax, round, add, lt, le, eq, fits}
use lib.Ieee.Bits.{of_bits-fits}
use lib.Ieee.Fits.{up_pos, down_pos, and_l, and_r}
use lib.Ieee.Order.{round_mono}
use lib.Ieee.Positive.{above, above_of_le, first_pos}
use lib.Pow.{pow_pos}
use borrow.Author.Tests.{ne_eqb}
use Rattle.model.specs.Lists.{is_empty, retain}
use Rattle.model.specs.Floats.{float, zero_bits, plus, finite, finite_from_zero}
use Rattle.model.specs.Store.{Weighed, weight_of, above_cutoff}
use Rattle.model.proofs.Lists.{and_both}
use Rattle.model.specs.Sum.{done, added_to, total, divided_by, normalised, kept}

-- not below 0, by the sign alone
unsigned : Float → Bool
unsigned nan = false
unsigned (inf s) = not s
unsigned (fin s m e) = not s

zero_left : (u v : ℕ) → 0 * u * v ≡ 0
zero_left u v = simp zero-mul

-- a cutoff of -0 is 0
minus-zero : (m : ℕ) (e : ℤ) → T (le (float zero_bits) (fin true m e)) → m ≡ 0
unfolding le lt eq of_bits
minus-zero zero e p = refl
minus-zero (suc m) e p =
    let a = 0 * up (pos 0) * down e in
    let b = suc m * up e * down (pos 0) in
    let z : a ≡ b = eqb→eq a b (and_l (eqb a b) (eqb a 0) p) in
    absurd (omega (arith, z, zero_left (up (pos 0)) (down e), mul-pos (mul-pos (zero-lt-suc m) (up_pos e)) (down_pos (pos 0))))

positive : (n u v : ℕ) → 0 < n * u * v → T (ltb 0 n)
positive n u v h = lt→ltb 0 n (first_pos n u (first_pos (n * u) v h))

-- above a cutoff that is not below 0
above-cutoff : (c x : Float) → T (le (float zero_bits) c) → T (lt c x) → T (above x)
unfolding lt le eq of_bits
above-cutoff nan x p h = absurd p
above-cutoff (inf true) x p h = absurd p
above-cutoff (inf false) nan p h = absurd h
above-cutoff (inf false) (inf t) p h = absurd h
above-cutoff (inf false) (fin t n d) p h = absurd h
above-cutoff (fin s m e) nan p h = absurd h
above-cutoff (fin s m e) (inf t) p h = h
above-cutoff (fin false m e) (fin true n d) p h = absurd h
above-cutoff (fin false m e) (fin false n d) p h = positive n (up d) (down e) (omega (arith, ltb→lt (m * up e * down d) (n * up d * down e) h))
above-cutoff (fin true m e) (fin true n d) p h =
    let z : m * up e * down d ≡ 0 = rw (minus-zero m e p) (zero_left (up e) (down d)) in
    absurd (omega (arith, ltb→lt (n * up d * down e) (m * up e * down d) h))
above-cutoff (fin true m e) (fin false n d) p h =
    let z : m * up e * down d ≡ 0 = rw (minus-zero m e p) (zero_left (up e) (down d)) in
    positive n (up d) (down e) (omega (arith, ltb→lt 0 (m * up e * down d + n * up d * down e) h))

-- a fraction of at least the format's smallest
round-above : (a c : ℕ) → 0 < c → c ≤ a * 2 ^ low binary64 → T (above (round binary64 false a c))
unfolding round
round-above a c p h = above_of_le (round binary64 false 1 (2 ^ low binary64)) (round binary64 false a c) tt (round_mono binary64 1 (2 ^ low binary64) a c (pow_pos (low binary64)) p (rw one-mul h))

-- a sum of something that is not below 0 and something above 0
add-above : (x y : Float) → T (unsigned x) → T (above y) → T (fits binary64 y) → T (above (add binary64 x y))
unfolding unsigned add fits
add-above nan y p h f = absurd p
add-above (inf true) y p h f = absurd p
add-above (inf false) nan p h f = absurd h
add-above (inf false) (inf true) p h f = absurd h
add-above (inf false) (inf false) p h f = tt
add-above (inf false) (fin t n d) p h f = tt
add-above (fin true m e) y p h f = absurd p
add-above (fin false m e) nan p h f = absurd h
add-above (fin false m e) (inf true) p h f = absurd h
add-above (fin false m e) (inf false) p h f = tt
add-above (fin false m e) (fin true n d) p h f = absurd h
add-above (fin false m e) (fin false zero d) p h f = absurd h
add-above (fin false m e) (fin false (suc n) d) p h f =
    let a = m * up e * down d in
    let b = suc n * up d * down e in
    let least : down e ≤ b = rw one-mul at (mul-le-mul_right (down e) (mul-pos (zero-lt-suc n) (up_pos d))) in
    let fine : down d ≤ 2 ^ low binary64 =
    leb→le (down d) (2 ^ low binary64)
    (and_r (eqb (suc n % 2) 1 && ltb (suc n) (2 ^ prec binary64)) (leb (down d) (2 ^ low binary64))
    (and_l (eqb (suc n % 2) 1 && ltb (suc n) (2 ^ prec binary64) && leb (down d) (2 ^ low binary64)) (ltb (suc n * up d) (2 ^ suc (emax binary64) * down d)) f)) in
    round-above (a + b) (down e * down d) (mul-pos (down_pos e) (down_pos d)) (mul-le-mul (le_trans least (le-add_left b a)) fine)

-- .. is no 0
not-zero : (x : Float) → T (above x) → eq x (float zero_bits) ≡ false
unfolding eq of_bits
not-zero nan h = absurd h
not-zero (inf s) h = refl
not-zero (fin true m e) h = absurd h
not-zero (fin false m e) h = rw (zero-mul (down e), ne_eqb (m * up e * down (pos 0)) 0 (λ z. omega (arith, mul-pos (mul-pos (ltb→lt 0 m h) (up_pos e)) (down_pos (pos 0)))))

above-unsigned : (x : Float) → T (above x) → T (unsigned x)
unfolding unsigned
above-unsigned nan h = absurd h
above-unsigned (inf s) h = h
above-unsigned (fin true m e) h = absurd h
above-unsigned (fin false m e) h = tt

module _ {X : Type 0} (W : Weighed X) (cutoff : Float) (c : finite_from_zero cutoff ≡ true) where
  weight-above : (x : X) → above_cutoff cutoff (weight_of W x) ≡ true → T (above (float (weight_of W x)))
  unfolding finite_from_zero
  weight-above x e =
      let p = (and_both (le (float zero_bits) cutoff) (finite cutoff) c).0 in
      above-cutoff cutoff (float (weight_of W x)) (rw p tt) (rw e tt)

  -- one more weight, if it is kept
  step : (t : Float) (x : X) (k : List X) (b : Bool) → above_cutoff cutoff (weight_of W x) ≡ b → T (unsigned t) → (length (cond b (x ∷ k) k) ≡ 0 → T (above t))
      → ((u : Float) → T (unsigned u) → (length k ≡ 0 → T (above u)) → T (above (added_to W u k))) → T (above (added_to W t (cond b (x ∷ k) k)))
  unfolding added_to
  step t x k true e u h f =
      let a = add-above t (float (weight_of W x)) u (weight-above x e) (of_bits-fits binary64 (weight_of W x)) in
      f (plus t (float (weight_of W x))) (above-unsigned (plus t (float (weight_of W x))) a) (λ z. a)
  step t x k false e u h f = f t u h

  -- the kept weights added to something that is above 0, or not below it and some are kept
  added-above : (t : Float) (l : List X) → T (unsigned t) → (length (kept W cutoff l) ≡ 0 → T (above t)) → T (above (added_to W t (kept W cutoff l)))
  unfolding kept retain added_to
  added-above t [] u h = h refl
  added-above t (x ∷ l) u h = step t x (kept W cutoff l) (above_cutoff cutoff (weight_of W x)) refl u h (λ v. added-above v l)

  kept-total : (l : List X) → 0 < length (kept W cutoff l) → eq (total W (kept W cutoff l)) (float zero_bits) ≡ false
  unfolding total unsigned of_bits
  kept-total l h = not-zero (total W (kept W cutoff l)) (added-above (float zero_bits) l tt (λ z. absurd (omega arith)))

  divides : (l k : List X) → kept W cutoff l ≡ k → normalised W k ≡ done (map (divided_by W (total W k)) k)
  unfolding normalised is_empty
  divides l [] e = refl
  divides l (x ∷ k) e = rw (rw e at (kept-total l (rw e (zero-lt-suc (length k)))))

  -- so normalising what is kept never gives 9
  pub kept-divides : (l : List X) → normalised W (kept W cutoff l) ≡ done (map (divided_by W (total W (kept W cutoff l))) (kept W cutoff l))
  kept-divides l = divides l (kept W cutoff l) refl
