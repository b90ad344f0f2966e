-- Laws of any list of which a loop keeps a part. Assumes nothing.
use mathlib.Core.Path.{◌≡◌, refl, sym, ap}
use mathlib.Core.Bool.{Bool, true, false, cond}
use mathlib.Core.List.{List, [], ◌∷◌, ◌++◌, append-nil}
use Prim.Native.Nat.{ℕ, suc, ◌+◌, ◌≤◌, ◌<◌}
use native.Mathlib.Nat.{not-suc-le-zero, le_refl}
use native.Mathlib.Numerals.{add-one}
use native.Mathlib.Omega.{arith}
use lib.ListN.{length, take, drop, get_or, set, drop_of_length-le}
use lib.Seq.{drop-cons, take-suc-set, drop-set-lt, append_snoc}
use Rattle.model.specs.Lists.{is_empty, retain}

module _ {A : Type 0} where
  pub not-empty : (l : List A) → 0 < length l → is_empty l ≡ false
  unfolding is_empty
  not-empty [] h = absurd (not-suc-le-zero h)
  not-empty (x ∷ l) h = refl

module _ {A : Type 0} (p : A → Bool) where
  -- A loop that moves what it keeps to the front has passed i of them and kept j: with what is kept of the rest these are the whole.
  abbrev pub kept_from : ℕ → ℕ → List A → List A
  kept_from j i l = take j l ++ retain p (drop i l)

  module _ (l : List A) (i : ℕ) (d : A) (h : i < length l) where
    pub next : (b : Bool) → p (get_or l i d) ≡ b → retain p (drop i l) ≡ cond b (get_or l i d ∷ retain p (drop (i + 1) l)) (retain p (drop (i + 1) l))
    unfolding retain
    next b e = rw (drop-cons l i d h, retain, e, add-one)

    -- a turn that moves the one at i to place j
    pub moved : (j : ℕ) → j ≤ i → p (get_or l i d) ≡ true → kept_from (j + 1) (i + 1) (set l j (get_or l i d)) ≡ kept_from j i l
    moved j g e =
        let x = get_or l i d in
        rw (add-one j, take-suc-set l j x (omega arith), drop-set-lt (i + 1) l j x (omega arith), append_snoc (take j l) x (retain p (drop (i + 1) l)))
        (ap (λ (r : List A). take j l ++ r) (sym (next true e)))

    -- a turn that leaves it behind
    pub left_behind : (j : ℕ) → p (get_or l i d) ≡ false → kept_from j (i + 1) l ≡ kept_from j i l
    left_behind j e = rw (next false e)

  pub all-passed : (l : List A) (i j : ℕ) → length l ≤ i → kept_from j i l ≡ take j l
  unfolding retain
  all-passed l i j h = rw (drop_of_length-le l {i = i} h, retain) (append-nil (take j l))

  pub retain-length : (l : List A) → length (retain p l) ≤ length l
  unfolding retain
  retain-length [] = le_refl 0
  retain-length (x ∷ l) = one (p x) (retain-length l)
    where
      one : (b : Bool) → length (retain p l) ≤ length l → length (cond b (x ∷ retain p l) (retain p l)) ≤ suc (length l)
      one true h = omega arith
      one false h = omega arith

  -- as many as there were: none went
  pub none-went : (l : List A) → length (retain p l) ≡ length l → retain p l ≡ l
  unfolding retain
  none-went [] e = refl
  none-went (x ∷ l) e = one (p x) (retain-length l) (none-went l) e
    where
      one : (b : Bool) → length (retain p l) ≤ length l → (length (retain p l) ≡ length l → retain p l ≡ l) → length (cond b (x ∷ retain p l) (retain p l)) ≡ suc (length l) → cond b (x ∷ retain p l) (retain p l) ≡ x ∷ l
      one true h f g = ap {B = List A} (λ r. x ∷ r) (f (omega arith))
      one false h f g = absurd (omega arith)
