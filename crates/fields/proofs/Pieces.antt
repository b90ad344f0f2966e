-- Pieces of one length, one after the other: where each stands. Assumes nothing.
use mathlib.Core.Path.{◌≡◌, refl, sym, ap, ◌∙◌}
use mathlib.Core.Bool.{Bool, true}
use mathlib.Core.List.{List, [], ◌∷◌, ◌++◌, map, append_assoc}
use Prim.Native.Nat.{ℕ, zero, suc, ◌+◌, ◌*◌, ◌<◌, ◌≤◌}
use native.Mathlib.Nat.{zero-mul, suc-mul, mul-zero, mul-suc, not-suc-le-zero, le_of_suc-le-suc}
use native.Mathlib.Omega.{arith}
use lib.ListN.{length, drop, get_or, length-append}
use lib.Seq.{take_at, drop_at, drop-drop, drop-cons}
use Rattle.model.specs.Lists.{every, groups, joined}
use Rattle.model.proofs.Lists.{and_both}

-- ---- a test of every element

module _ {X : Type 0} (p : X → Bool) where
  -- it holds of the rest
  pub every_drop : (i : ℕ) (l : List X) → every p l ≡ true → every p (drop i l) ≡ true
  unfolding every
  every_drop zero l e = e
  every_drop (suc i) [] e = refl
  every_drop (suc i) (x ∷ xs) e = every_drop i xs (and_both (p x) (every p xs) e).1

  -- it holds if it does at each place
  pub every-all : (d : X) (l : List X) → ((i : ℕ) → i < length l → p (get_or l i d) ≡ true) → every p l ≡ true
  unfolding every
  every-all d [] h = refl
  every-all d (x ∷ xs) h = rw (h 0 (omega arith)) (every-all d xs (λ i k. h (suc i) (omega arith)))

-- ---- f makes a piece of k words of each element that passes the test p

module _ {X : Type 0} (f : X → List ℕ) (p : X → Bool) (k : ℕ) (long : (x : X) → p x ≡ true → length (f x) ≡ k) where
  -- their words, all together
  pub pieces-length : (l : List X) → every p l ≡ true → length (joined (map f l)) ≡ length l * k
  unfolding every joined
  pieces-length [] e = sym (zero-mul k)
  pieces-length (x ∷ l) e =
      let b = and_both (p x) (every p l) e in
      length-append (f x) (joined (map f l)) ∙ (omega (arith, long x b.0, pieces-length l b.1, suc-mul (length l) k))

  -- what stands from piece i on
  pub pieces-from : (i : ℕ) (l : List X) (rest : List ℕ) → every p l ≡ true → i ≤ length l → drop (k * i) (joined (map f l) ++ rest) ≡ joined (map f (drop i l)) ++ rest
  unfolding every joined
  pieces-from zero l rest e h = ap (λ (n : ℕ). drop n (joined (map f l) ++ rest)) (mul-zero k)
  pieces-from (suc i) [] rest e h = absurd (not-suc-le-zero h)
  pieces-from (suc i) (x ∷ l) rest e h =
      let b = and_both (p x) (every p l) e in
      let n : k * suc i ≡ k + k * i = omega (arith, mul-suc k i) in
      ap (λ (w : List ℕ). drop (k * suc i) w) (append_assoc (f x) (joined (map f l)) rest)
      ∙ ap (λ (j : ℕ). drop j (f x ++ (joined (map f l) ++ rest))) n
      ∙ sym (drop-drop (k * i) k (f x ++ (joined (map f l) ++ rest)))
      ∙ ap (drop (k * i)) (drop_at (f x) (joined (map f l) ++ rest) k (long x b.0))
      ∙ pieces-from i l rest b.1 (le_of_suc-le-suc h)

  -- piece i
  pub pieces-at : (i : ℕ) (l : List X) (d : X) (rest : List ℕ) → every p l ≡ true → i < length l
      → drop (k * i) (joined (map f l) ++ rest) ≡ f (get_or l i d) ++ (joined (map f (drop (suc i) l)) ++ rest)
  unfolding joined
  pieces-at i l d rest e h =
      pieces-from i l rest e (omega arith)
      ∙ ap (λ w. joined (map f w) ++ rest) (drop-cons l i d h)
      ∙ append_assoc (f (get_or l i d)) (joined (map f (drop (suc i) l))) rest

  -- cut again, they are the pieces
  pub pieces-cut : (l : List X) → every p l ≡ true → groups k (length l) (joined (map f l)) ≡ map f l
  unfolding every joined groups
  pieces-cut [] e = refl
  pieces-cut (x ∷ l) e =
      let b = and_both (p x) (every p l) e in
      rw (take_at (f x) (joined (map f l)) k (long x b.0), drop_at (f x) (joined (map f l)) k (long x b.0), pieces-cut l b.1)
