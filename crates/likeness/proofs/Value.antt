-- The lookup of a value, from the last coefficient down: what the walk has passed, where it leaves, and that what it returns with is the
-- value of likeness. Assumes nothing.
use mathlib.Core.Path.{◌≡◌, refl, sym, ap, ◌∙◌}
use mathlib.Core.List.{List}
use mathlib.Core.Logic.{⊎_elim}
use Prim.Native.Nat.{ℕ, zero, suc, ◌+◌, ◌-◌, ◌<◌, ◌≤◌}
use native.Mathlib.Nat.{eq-or-lt_of_le, le_antisymm, le_of_suc-le-suc, lt_of_not-le, not-suc-le-zero}
use native.Mathlib.Omega.{arith}
use lib.Ieee.{Float}
use borrow.Author.Tests.{eq-eqb, ne_eqb}
use Rattle.model.specs.Floats.{float, zero_bits}
use Rattle.model.specs.Entries.{index_at, re_at, im_at}
use Rattle.model.specs.Likeness.{value_at, Hit, NoHit, LookedUp, hit, none}
use Rattle.likeness.specs.Walk.{Passed}

-- ---- the walk

module _ (coefs : List ℕ) (i count : ℕ) where
  pub passed-same : (read read' : ℕ) → read ≡ read' → Passed coefs i count read → Passed coefs i count read'
  passed-same read read' e p = rw e at p

  -- `next` is one more than were read
  module _ (read next : ℕ) (one : next ≡ read + 1) (l : next ≤ count) (p : Passed coefs i count read) where
    pub passed-more : (index_at coefs (count - next) ≡ i → ⊥) → Passed coefs i count next
    passed-more h =
        record {
          missed =
              λ k a b e.
              ⊎_elim (λ (s : count - next ≡ k). h (ap (index_at coefs) s ∙ e)) (λ (w : count - next < k). p.missed k (omega (arith, one)) b e) (eq-or-lt_of_le a);
        }

    pub passed-hit : index_at coefs (count - next) ≡ i → Hit coefs i count (count - next)
    passed-hit h = record { counted = omega (arith, one); index = h; first = λ k a b e. p.missed k (omega (arith, one)) b e }

-- a hit after so many
pub hit-after : {coefs : List ℕ} {i count : ℕ} {re im : Float} {read read' : ℕ}
    → (0 < read) × (read ≤ count) × Hit coefs i count (count - read)
    → (re ≡ float (re_at coefs (count - read))) × (im ≡ float (im_at coefs (count - read))) × (read' ≡ read)
    → LookedUp coefs i count re im read'
hit-after (l, m, h) (r, n, e) = hit _ h r n (omega arith)

-- ---- what it returns with

hit-once : {coefs : List ℕ} {i c j k : ℕ} → Hit coefs i c j → Hit coefs i c k → j ≡ k
hit-once {coefs} {i} {c} {j} {k} h g =
    le_antisymm
    (le_of_suc-le-suc (lt_of_not-le (λ (w : k < j). g.first j w h.counted h.index)))
    (le_of_suc-le-suc (lt_of_not-le (λ (w : j < k). h.first k w g.counted g.index)))

module _ (part : List ℕ → ℕ → ℕ) (coefs : List ℕ) (i : ℕ) where
  -- a hit among c + 1 coefficients that is not the last of them is one among c
  shorter : (c j : ℕ) → Hit coefs i (suc c) j → j < c → Hit coefs i c j
  shorter c j h l = record { counted = l; index = h.index; first = λ k a b e. h.first k a (omega arith) e }

  pub value-hit : (c j : ℕ) → Hit coefs i c j → value_at part coefs i c ≡ part coefs j
  unfolding value_at
  value-hit zero j h = absurd (not-suc-le-zero h.counted)
  value-hit (suc c) j h =
      ⊎_elim
      (λ (e : j ≡ c). rw (value_at, eq-eqb (index_at coefs c) i (ap (index_at coefs) (sym e) ∙ h.index)) (ap (part coefs) (sym e)))
      (λ (w : j < c). rw (value_at, ne_eqb (index_at coefs c) i (h.first c w (omega arith))) (value-hit c j (shorter c j h w)))
      (eq-or-lt_of_le (le_of_suc-le-suc h.counted))

  pub value_none : (c : ℕ) → NoHit coefs i c → value_at part coefs i c ≡ zero_bits
  unfolding value_at
  value_none zero h = refl
  value_none (suc c) h = rw (value_at, ne_eqb (index_at coefs c) i (h c (omega arith))) (value_none c (λ l a e. h l (omega arith) e))

module _ {coefs : List ℕ} {i c : ℕ} {re im : Float} {read : ℕ} where
  -- its value is the value of likeness
  pub looked-up : LookedUp coefs i c re im read → (re ≡ float (value_at re_at coefs i c)) × (im ≡ float (value_at im_at coefs i c))
  looked-up (hit j h r m n) = (r ∙ ap float (sym (value-hit re_at coefs i c j h)), m ∙ ap float (sym (value-hit im_at coefs i c j h)))
  looked-up (none h r m n) = (r ∙ ap float (sym (value_none re_at coefs i c h)), m ∙ ap float (sym (value_none im_at coefs i c h)))

  -- and how many were read is one number: there are no two first hits
  pub read-once : {re' im' : Float} {read' : ℕ} → LookedUp coefs i c re im read → LookedUp coefs i c re' im' read' → read ≡ read'
  read-once (hit j h r m n) (hit k g r' m' n') = n ∙ ap (λ (l : ℕ). c - l) (hit-once h g) ∙ sym n'
  read-once (hit j h r m n) (none g r' m' n') = absurd (g j h.counted h.index)
  read-once (none h r m n) (hit k g r' m' n') = absurd (h k g.counted g.index)
  read-once (none h r m n) (none g r' m' n') = n ∙ sym n'
