-- The number that the tests in front of a call give, a law for each. Assumes nothing.
use mathlib.Core.Path.{◌≡◌, sym, ap, ◌∙◌}
use mathlib.Core.Bool.{Bool, cond, not}
use Prim.Native.Nat.{ℕ, ◌-◌, ◌*◌, ◌≤◌}
use lib.Dec.{eqb}
use borrow.Author.Tests.{eq-eqb, ne_eqb}
use lib.ListN.{length, take, drop}
use Rattle.model.specs.Entries.{entry_len, past_count}
use Rattle.model.specs.Numbers.{first_of, all_zero}
use Rattle.model.specs.Calls.{Lent, shape, words_sound, front, zeros_past}
use Rattle.model.proofs.Entries.{part-tail}
use Rattle.model.proofs.Shape.{shaped, listed-within}
use Rattle.model.proofs.Steps.{five, front-is}
use Rattle.entries.specs.Within.{Within}

module _ (own : ℕ) (x : Lent) where
  -- what the tests behind 1 and 2 give
  abbrev others : ℕ
  others = cond (eqb own 0) (first_of (five x)) own

  by_shape : {b : Bool} → eqb (first_of (shape x)) 0 ≡ b → front own x ≡ cond b others (first_of (shape x))
  by_shape e = front-is own x ∙ ap (λ (b : Bool). cond b others (first_of (shape x))) e

  by-own : {b : Bool} → first_of (shape x) ≡ 0 → eqb own 0 ≡ b → front own x ≡ cond b (first_of (five x)) own
  by-own s e = by_shape (eq-eqb _ 0 s) ∙ ap (λ (b : Bool). cond b (first_of (five x)) own) e

  -- 1 or 2
  pub front-shape : (n : ℕ) → n ≡ first_of (shape x) → (n ≡ 0 → ⊥) → n ≡ front own x
  front-shape n e h = e ∙ sym (by_shape (ne_eqb _ 0 (λ z. h (e ∙ z))))

  -- the call's own
  pub front-own : first_of (shape x) ≡ 0 → (own ≡ 0 → ⊥) → own ≡ front own x
  front-own s h = sym (by-own s (ne_eqb own 0 h))

  -- 5, or none
  pub front-words : {b : Bool} → first_of (shape x) ≡ 0 → own ≡ 0 → b ≡ words_sound x → cond (not b) 5 0 ≡ front own x
  unfolding first_of
  front-words s z e = ap (λ (b : Bool). cond (not b) 5 0) e ∙ sym (by-own s (eq-eqb own 0 z))

-- ---- what neither 1 nor 2 leaves

module _ (x : Lent) (s : first_of (shape x) ≡ 0) where
  pub lent-within : Within x.header.size × (x.header.count * entry_len x.header.size ≤ length x.words)
  lent-within =
      let h = shaped x s in
      (record { qubits = h.size.qubits.high; coefficients = h.size.coefficients.high }, listed-within x h)

  module _ (len : ℕ) (e : len ≡ entry_len x.header.size) where
    -- the slots past the count begin within the store
    pub past-within : x.header.count * len ≤ length x.words
    past-within = rw e (lent-within.1)

    pub past-zero : {r : Bool} → r ≡ all_zero (take (length x.words - x.header.count * len) (drop (x.header.count * len) x.words)) → r ≡ zeros_past x
    unfolding past_count
    past-zero z = z ∙ ap all_zero (part-tail (x.header.count * len) x.words ∙ ap (λ (l : ℕ). drop (x.header.count * l) x.words) e)
