-- Lists of places, none twice: one more at the end, and one taken out, whose turn the last one takes. Assumes nothing.
use mathlib.Core.Path.{◌≡◌, refl, sym, ◌∙◌}
use mathlib.Core.Bool.{Bool, true, false}
use mathlib.Core.List.{List}
use Prim.Native.Nat.{ℕ, suc, ◌+◌, ◌<◌}
use native.Mathlib.Omega.{arith}
use lib.Dec.{eqb}
use lib.ListN.{length, get_or, set}
use lib.Seq.{get_or-set_same, get_or-set_other}
use borrow.Author.Count.{below_more}
use borrow.Author.Tests.{eqb-true, eqb-false}
use Rattle.places.specs.Places.{Distinct}

-- ---- one more at the end

module _ (m x : ℕ) (l : List ℕ) (g : m < length l) where
  abbrev pub with-one : List ℕ
  with-one = set l m x

  -- the earlier ones are as they were
  earlier : (k : ℕ) → k < m → get_or with-one k 0 ≡ get_or l k 0
  earlier k h = get_or-set_other l m k x 0 (λ (e : k ≡ m). omega arith)

  last_one : get_or with-one m 0 ≡ x
  last_one = get_or-set_same l m x 0 g

  -- what holds of the earlier ones and of this one
  pub each_more : (P : ℕ → Type 0) → ((k : ℕ) → k < m → P (get_or l k 0)) → P x → (k : ℕ) → k < m + 1 → P (get_or with-one k 0)
  each_more P b h = below_more (λ (k : ℕ). P (get_or with-one k 0)) m (λ k z. rw (earlier k z) (b k z)) (rw last_one h)

  -- the same stands at u and v only where these are the same
  abbrev Single : ℕ → ℕ → Type 0
  Single u v = get_or with-one u 0 ≡ get_or with-one v 0 → u ≡ v

  pub one_more : (count : ℕ) → x < count → ((k : ℕ) → k < m → get_or l k 0 ≡ x → ⊥) → Distinct count m l → Distinct count (m + 1) with-one
  one_more count b n t =
      let old : (u : ℕ) → u < m → (v : ℕ) → v < m + 1 → Single u v = λ u h. below_more (Single u) m (λ v k e. t.once u v h k (sym (earlier u h) ∙ e ∙ earlier v k)) (λ e. absurd (n u h (sym (earlier u h) ∙ e ∙ last_one))) in
      let new : (v : ℕ) → v < m + 1 → Single m v = below_more (Single m) m (λ v k e. absurd (n v k (sym (earlier v k) ∙ sym e ∙ last_one))) (λ e. refl) in
      record {
        below = each_more (λ (y : ℕ). y < count) t.below b;
        once = λ u v h k. below_more (λ (i : ℕ). Single i v) m (λ i z. old i z v k) (new v k) u h;
      }

-- ---- one taken out, whose turn the last one takes

-- what stands at place u stood at v
data Stood (j m u v : ℕ) : Type 0 where
  moved : u ≡ j → v ≡ m → Stood j m u v
  kept : (u ≡ j → ⊥) → v ≡ u → Stood j m u v

module _ (j m : ℕ) where
  stood-within : {u v : ℕ} → u < m → Stood j m u v → v < suc m
  stood-within h (moved a b) = omega arith
  stood-within h (kept a b) = omega arith

  stood-elsewhere : {u v : ℕ} → u < m → Stood j m u v → v ≡ j → ⊥
  stood-elsewhere h (moved a b) e = omega arith
  stood-elsewhere h (kept a b) e = a (omega arith)

  stood-once : {u v x y : ℕ} → u < m → v < m → Stood j m u x → Stood j m v y → x ≡ y → u ≡ v
  stood-once h k (moved a b) (moved c d) e = omega arith
  stood-once h k (moved a b) (kept c d) e = omega arith
  stood-once h k (kept a b) (moved c d) e = omega arith
  stood-once h k (kept a b) (kept c d) e = omega arith

  module _ (l : List ℕ) (g : j < length l) where
    abbrev pub without : List ℕ
    without = set l j (get_or l m 0)

    stood : (u : ℕ) → (v : ℕ) × Stood j m u v × (get_or without u 0 ≡ get_or l v 0)
    stood u = go (eqb u j) refl
      where
        go : (b : Bool) → eqb u j ≡ b → (v : ℕ) × Stood j m u v × (get_or without u 0 ≡ get_or l v 0)
        go true e = let o : u ≡ j = eqb-true u j e in (m, moved o refl, rw o (get_or-set_same l j (get_or l m 0) 0 g))
        go false e = let o : u ≡ j → ⊥ = eqb-false u j e in (u, kept o refl, get_or-set_other l j u (get_or l m 0) 0 o)

    -- what holds of the others
    pub each-without : (P : ℕ → Type 0) → ((u : ℕ) → u < suc m → (u ≡ j → ⊥) → P (get_or l u 0)) → (u : ℕ) → u < m → P (get_or without u 0)
    each-without P b u h = let t = stood u in rw t.2 (b t.0 (stood-within h t.1) (stood-elsewhere h t.1))

    pub one-removed : (count : ℕ) → Distinct count (suc m) l → Distinct count m without
    one-removed count t =
        record {
          below = each-without (λ (y : ℕ). y < count) (λ u h n. t.below u h);
          once =
              λ u v h k e.
              let a = stood u in
              let b = stood v in
              stood-once h k a.1 b.1 (t.once a.0 b.0 (stood-within h a.1) (stood-within k b.1) (sym a.2 ∙ e ∙ b.2));
        }
