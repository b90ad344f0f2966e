-- One more place of an order is held; a place is settled, by an exchange or by a copy: the order and what is held stay inverse. Assumes nothing.
use mathlib.Core.Path.{◌≡◌, sym, ap, subst, ◌∙◌}
use mathlib.Core.List.{List}
use mathlib.Core.Logic.{⊎_elim}
use Prim.Native.Nat.{ℕ, ◌+◌, ◌-◌, ◌≤◌, ◌<◌}
use native.Mathlib.Nat.{eq-zero-or-pos}
use native.Mathlib.Decide.{ℕ_discrete}
use native.Mathlib.Omega.{arith}
use lib.ListN.{length, get_or, set, replicate, length-set, get_or-replicate, length-replicate}
use lib.Seq.{get_or-set_same, get_or-set_other}
use Rattle.entries.specs.Exchanged.{exchanged}
use Rattle.places.specs.Places.{Distinct}
use Rattle.places.specs.Settled.{Inverse, Settled}
use Rattle.entries.proofs.Exchange.{first-there, second-there, others-there}

-- two numbers are the same, or not
pub either : {P : Type 0} (a b : ℕ) → (a ≡ b → P) → ((a ≡ b → ⊥) → P) → P
either {P} a b f g = from (ℕ_discrete a b)
  where
    from : Dec (a ≡ b) → P
    from (yes e) = f e
    from (no n) = g n

-- a number is a, or another; a, or b, or another
pub by_one : (P : ℕ → Type 0) (a : ℕ) → P a → ((u : ℕ) → (u ≡ a → ⊥) → P u) → (u : ℕ) → P u
by_one P a p f u = either u a (λ e. subst P (sym e) p) (f u)

pub by_two : (P : ℕ → Type 0) (a b : ℕ) → P a → P b → ((u : ℕ) → (u ≡ a → ⊥) → (u ≡ b → ⊥) → P u) → (u : ℕ) → P u
by_two P a b p q f = by_one P a p (λ u n. either u b (λ e. subst P (sym e) q) (f u n))

-- ---- one more place held

pub none-held : (order : List ℕ) → length order ≡ 256 → Inverse 0 order (replicate 256 256)
none-held order e =
    record {
      order_long = e;
      holds_long = length-replicate {A = ℕ} 256 256;
      there = λ u h. absurd (omega (arith, h));
      back = λ p h g. absurd (omega (arith, g, get_or-replicate {A = ℕ} 256 p 256 0 h));
    }

module _ {m n : ℕ} {order holds : List ℕ} (d : Distinct 256 n order) (h : m < n) (i : Inverse m order holds) where
  abbrev place : ℕ
  place = get_or order m 0

  here : get_or (set holds place m) place 0 ≡ m
  here = get_or-set_same holds place m 0 (omega (arith, i.holds_long, d.below m h))

  elsewhere : (p : ℕ) → (p ≡ place → ⊥) → get_or (set holds place m) p 0 ≡ get_or holds p 0
  elsewhere p ne = get_or-set_other holds place p m 0 ne

-- ---- one more place settled

module _ {count m v : ℕ} {order holds : List ℕ} (few : count ≤ 256) (fits : m ≤ count) (h : v < m) (t : Settled count m v order holds) where
  abbrev s : ℕ
  s = get_or order v 0

  abbrev x : ℕ
  x = get_or holds v 0

  -- different numbers of the order have different places
  pub once : (u k : ℕ) → u < m → k < m → get_or order u 0 ≡ get_or order k 0 → u ≡ k
  once u k f g e = sym (t.inverse.there u f) ∙ ap (λ (p : ℕ). get_or holds p 0) e ∙ t.inverse.there k g

  -- it stands there already
  pub stays : s ≡ v → Settled count m (v + 1) order holds
  stays e =
      record {
        inverse = t.inverse;
        below = t.below;
        settled = λ u g. either u v (λ z. rw z e) (λ ne. t.settled u (omega arith));
      }

  module _ (ne : s ≡ v → ⊥) where
    -- the places below v are settled, so s is not one of them
    pub later : v < s
    later =
        ⊎_elim
        (λ (z : s - v ≡ 0).
        let b : s < v = omega (arith, ne) in
        absurd (ne (once s v (omega arith) h (t.settled s b))))
        (λ (z : 0 < s - v). omega arith)
        (eq-zero-or-pos (s - v))

    -- another number of the order has another place than s
    not-s : (u : ℕ) → u < m → (u ≡ v → ⊥) → get_or order u 0 ≡ s → ⊥
    not-s u g f e = f (once u v g h e)

    v-not-s : v ≡ s → ⊥
    v-not-s e = ne (sym e)

    -- ---- by an exchange with entry x of the order, which stands there

    module _ (b : x < m) where
      abbrev order₁ : List ℕ
      order₁ = set (set order v v) x s

      abbrev holds₁ : List ℕ
      holds₁ = set (set holds v v) s x

      at-v : get_or order x 0 ≡ v
      at-v = (t.inverse.back v (omega arith) (omega arith)).1

      v-not-x : v ≡ x → ⊥
      v-not-x e = ne (ap (λ (k : ℕ). get_or order k 0) e ∙ at-v)

      not-v : (u : ℕ) → u < m → (u ≡ x → ⊥) → get_or order u 0 ≡ v → ⊥
      not-v u g f e = f (once u x g b (e ∙ sym at-v))

      order-v : get_or order₁ v 0 ≡ v
      order-v = first-there order v x v-not-x v s 0 (omega (arith, t.inverse.order_long))

      order-x : get_or order₁ x 0 ≡ s
      order-x = second-there order v x v-not-x v s 0 (omega (arith, t.inverse.order_long))

      order_other : (u : ℕ) → (u ≡ v → ⊥) → (u ≡ x → ⊥) → get_or order₁ u 0 ≡ get_or order u 0
      order_other u f k = others-there order v x v-not-x v s 0 u f k

      holds-v : get_or holds₁ v 0 ≡ v
      holds-v = first-there holds v s v-not-s v x 0 (omega (arith, t.inverse.holds_long))

      holds-s : get_or holds₁ s 0 ≡ x
      holds-s = second-there holds v s v-not-s v x 0 (omega (arith, t.inverse.holds_long, t.below v h))

      holds-other : (p : ℕ) → (p ≡ v → ⊥) → (p ≡ s → ⊥) → get_or holds₁ p 0 ≡ get_or holds p 0
      holds-other p f k = others-there holds v s v-not-s v x 0 p f k

      pub exchange-settles : Settled count m (v + 1) order₁ holds₁
      exchange-settles =
          record {
            inverse =
                record {
                  order_long = length-set (set order v v) x s ∙ length-set order v v ∙ t.inverse.order_long;
                  holds_long = length-set (set holds v v) s x ∙ length-set holds v v ∙ t.inverse.holds_long;
                  there =
                      by_two (λ u. u < m → get_or holds₁ (get_or order₁ u 0) 0 ≡ u) v x
                      (λ g. ap (λ (p : ℕ). get_or holds₁ p 0) order-v ∙ holds-v)
                      (λ g. ap (λ (p : ℕ). get_or holds₁ p 0) order-x ∙ holds-s)
                      (λ u f k g. ap (λ (p : ℕ). get_or holds₁ p 0) (order_other u f k) ∙ holds-other (get_or order u 0) (not-v u g k) (not-s u g f) ∙ t.inverse.there u g);
                  back =
                      by_two (λ p. p < 256 → get_or holds₁ p 0 < 256 → (get_or holds₁ p 0 < m) × (get_or order₁ (get_or holds₁ p 0) 0 ≡ p)) v s
                      (λ g i. rw holds-v (h, order-v))
                      (λ g i. rw holds-s (b, order-x))
                      (λ p f k g i.
                      let j = t.inverse.back p g (rw (holds-other p f k) at i) in
                      let u = get_or holds p 0 in
                      let q : (n : ℕ) → u ≡ n → p ≡ get_or order n 0 = λ n e. sym j.1 ∙ ap (λ (y : ℕ). get_or order y 0) e in
                      rw (holds-other p f k) (j.0, order_other u (λ e. k (q v e)) (λ e. f (q x e ∙ at-v)) ∙ j.1));
                };
            below =
                by_two (λ u. u < m → get_or order₁ u 0 < count) v x
                (λ g. omega (arith, order-v))
                (λ g. omega (arith, order-x, t.below v h))
                (λ u f k g. omega (arith, order_other u f k, t.below u g));
            settled =
                by_two (λ u. u < v + 1 → get_or order₁ u 0 ≡ u) v x
                (λ g. order-v)
                (λ g. let z : x < v = omega (arith, v-not-x) in absurd (v-not-x (sym at-v ∙ t.settled x z)))
                (λ u f k g. order_other u f k ∙ t.settled u (omega arith));
          }

      pub exchange-keeps : {X : Type 0} (d : X) (l : List X) → length l ≡ count → (u : ℕ) → u < m → get_or (exchanged d v s l) (get_or order₁ u 0) d ≡ get_or l (get_or order u 0) d
      unfolding exchanged
      exchange-keeps {X} d l e =
          let l₁ : List X = set (set l v (get_or l s d)) s (get_or l v d) in
          by_two (λ u. u < m → get_or l₁ (get_or order₁ u 0) d ≡ get_or l (get_or order u 0) d) v x
          (λ g. ap (λ (p : ℕ). get_or l₁ p d) order-v ∙ first-there l v s v-not-s _ _ d (omega (arith, e)))
          (λ g. ap (λ (p : ℕ). get_or l₁ p d) order-x ∙ second-there l v s v-not-s _ _ d (omega (arith, e, t.below v h)) ∙ ap (λ (p : ℕ). get_or l p d) (sym at-v))
          (λ u f k g. ap (λ (p : ℕ). get_or l₁ p d) (order_other u f k) ∙ others-there l v s v-not-s _ _ d (get_or order u 0) (not-v u g k) (not-s u g f))

    -- ---- by a copy: no entry of the order stands there

    module _ (b : m ≤ x) where
      abbrev order₂ : List ℕ
      order₂ = set order v v

      abbrev holds₂ : List ℕ
      holds₂ = set (set holds v v) s 256

      none-at-v : (u : ℕ) → u < m → get_or order u 0 ≡ v → ⊥
      none-at-v u g e = omega (arith, t.inverse.there u g, ap (λ (p : ℕ). get_or holds p 0) e)

      copy-v : get_or order₂ v 0 ≡ v
      copy-v = get_or-set_same order v v 0 (omega (arith, t.inverse.order_long))

      copy-other : (u : ℕ) → (u ≡ v → ⊥) → get_or order₂ u 0 ≡ get_or order u 0
      copy-other u f = get_or-set_other order v u v 0 f

      held-v : get_or holds₂ v 0 ≡ v
      held-v = first-there holds v s v-not-s v 256 0 (omega (arith, t.inverse.holds_long))

      held-s : get_or holds₂ s 0 ≡ 256
      held-s = second-there holds v s v-not-s v 256 0 (omega (arith, t.inverse.holds_long, t.below v h))

      held-other : (p : ℕ) → (p ≡ v → ⊥) → (p ≡ s → ⊥) → get_or holds₂ p 0 ≡ get_or holds p 0
      held-other p f k = others-there holds v s v-not-s v 256 0 p f k

      pub copy-settles : Settled count m (v + 1) order₂ holds₂
      copy-settles =
          record {
            inverse =
                record {
                  order_long = length-set order v v ∙ t.inverse.order_long;
                  holds_long = length-set (set holds v v) s 256 ∙ length-set holds v v ∙ t.inverse.holds_long;
                  there =
                      by_one (λ u. u < m → get_or holds₂ (get_or order₂ u 0) 0 ≡ u) v
                      (λ g. ap (λ (p : ℕ). get_or holds₂ p 0) copy-v ∙ held-v)
                      (λ u f g. ap (λ (p : ℕ). get_or holds₂ p 0) (copy-other u f) ∙ held-other (get_or order u 0) (none-at-v u g) (not-s u g f) ∙ t.inverse.there u g);
                  back =
                      by_two (λ p. p < 256 → get_or holds₂ p 0 < 256 → (get_or holds₂ p 0 < m) × (get_or order₂ (get_or holds₂ p 0) 0 ≡ p)) v s
                      (λ g i. rw held-v (h, copy-v))
                      (λ g i. absurd (omega (arith, i, held-s)))
                      (λ p f k g i.
                      let j = t.inverse.back p g (rw (held-other p f k) at i) in
                      rw (held-other p f k) (j.0, copy-other (get_or holds p 0) (λ e. k (sym j.1 ∙ ap (λ (y : ℕ). get_or order y 0) e)) ∙ j.1));
                };
            below = by_one (λ u. u < m → get_or order₂ u 0 < count) v (λ g. omega (arith, copy-v)) (λ u f g. omega (arith, copy-other u f, t.below u g));
            settled = by_one (λ u. u < v + 1 → get_or order₂ u 0 ≡ u) v (λ g. copy-v) (λ u f g. copy-other u f ∙ t.settled u (omega arith));
          }

      pub copy-keeps : {X : Type 0} (d : X) (l : List X) → length l ≡ count → (u : ℕ) → u < m → get_or (set l v (get_or l s d)) (get_or order₂ u 0) d ≡ get_or l (get_or order u 0) d
      copy-keeps {X} d l e =
          let l₁ : List X = set l v (get_or l s d) in
          by_one (λ u. u < m → get_or l₁ (get_or order₂ u 0) d ≡ get_or l (get_or order u 0) d) v
          (λ g. ap (λ (p : ℕ). get_or l₁ p d) copy-v ∙ get_or-set_same l v _ d (omega (arith, e)))
          (λ u f g. ap (λ (p : ℕ). get_or l₁ p d) (copy-other u f) ∙ get_or-set_other l v (get_or order u 0) _ d (none-at-v u g))
