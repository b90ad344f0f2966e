-- Bits packed into a word: what they depend on, the first one and those after it, and that packing passes XOR. Assumes nothing.
use mathlib.Core.Path.{◌≡◌, refl, sym, ap, ap₂, ◌∙◌}
use Prim.Native.Nat.{ℕ, zero, suc, ◌+◌, ◌*◌, ◌-◌, ◌/◌, ◌%◌, ◌^◌, ◌≤◌, ◌<◌}
use mathlib.Core.Logic.{⊎_elim}
use native.Mathlib.Nat.{add-suc, mul_comm, eq-or-lt_of_le, le_refl, le_of_lt, sub_self}
use native.Mathlib.Omega.{arith}
use lib.Bits.{bit_xor, xor_block}
use lib.Pow.{pow-add, pow-lt}
use Rattle.changes.specs.Changes.{packed}

-- none yet
pub packed_none : (f : ℕ → ℕ) (i : ℕ) → 0 ≡ packed f i (i - i)
unfolding packed
packed_none f i = sym (ap (packed f i) (sub_self i))

-- bits that are the same
pub packed-ext : (f g : ℕ → ℕ) (from many : ℕ) → ((r : ℕ) → from ≤ r → r < from + many → f r ≡ g r) → packed f from many ≡ packed g from many
unfolding packed
packed-ext f g from zero h = refl
packed-ext f g from (suc many) h =
    ap₂ (λ (v b : ℕ). v * 2 + b) (packed-ext f g (suc from) many (λ r k l. h r (omega arith) (omega arith))) (h from (omega arith) (omega arith))

-- none is set
pub packed-clear : (from many : ℕ) → packed (λ r. 0) from many ≡ 0
unfolding packed
packed-clear from zero = refl
packed-clear from (suc many) = omega (arith, packed-clear (suc from) many)

-- 0 means that none is set
pub packed_zero : (f : ℕ → ℕ) (from many : ℕ) → packed f from many ≡ 0 → (r : ℕ) → from ≤ r → r < from + many → f r ≡ 0
unfolding packed
packed_zero f from zero e r h l = absurd (omega arith)
packed_zero f from (suc many) e r h l =
    ⊎_elim
    (λ (d : from ≡ r). ap f (sym d) ∙ omega arith)
    (λ (d : from < r). packed_zero f (suc from) many (omega arith) r d (omega arith))
    (eq-or-lt_of_le h)

-- rows counted from another one
pub packed-shift : (f : ℕ → ℕ) (k from many : ℕ) → packed (λ r. f (k + r)) from many ≡ packed f (k + from) many
unfolding packed
packed-shift f k from zero = refl
packed-shift f k from (suc many) = ap (λ (v : ℕ). v * 2 + f (k + from)) (packed-shift f k (suc from) many ∙ ap (λ (x : ℕ). packed f x many) (add-suc k from))

module _ (f : ℕ → ℕ) (h : (r : ℕ) → f r < 2) where
  pub packed_lt : (from many : ℕ) → packed f from many < 2 ^ many
  unfolding packed
  packed_lt from zero = omega arith
  packed_lt from (suc many) = omega (arith, pow-add 2 1 many, packed_lt (suc from) many, h from)

  -- the first one, and the rest
  pub packed-first : (from many : ℕ) → packed f from (suc many) % 2 ≡ f from
  unfolding packed
  packed-first from many = omega (arith, h from)

  pub packed-rest : (from many : ℕ) → packed f from (suc many) / 2 ≡ packed f (suc from) many
  unfolding packed
  packed-rest from many = omega (arith, h from)

  pub packed-xor : (g : ℕ → ℕ) → ((r : ℕ) → g r < 2) → (from many : ℕ) → packed (λ r. bit_xor (f r) (g r)) from many ≡ bit_xor (packed f from many) (packed g from many)
  unfolding packed
  packed-xor g k from zero = refl
  packed-xor g k from (suc many) =
      ap (λ (v : ℕ). v * 2 + bit_xor (f from) (g from)) (packed-xor g k (suc from) many)
      ∙ sym (xor_block 1 (packed f (suc from) many) (packed g (suc from) many) (f from) (g from) (h from) (k from))

  -- fewer than 64 of them leave room for one more
  pub packed-room : (from many : ℕ) {v : ℕ} → v ≡ packed f from many → many < 64 → 2 * v + 1 < 2 ^ 64
  packed-room from many {v} k l =
      let e : 2 ^ (1 + many) ≡ 2 * 2 ^ many = pow-add 2 1 many in
      let top : 2 ^ (1 + many) ≤ 2 ^ 64 =
      ⊎_elim (λ (d : 1 + many ≡ 64). rw d (le_refl (2 ^ 64))) (λ (d : 1 + many < 64). le_of_lt (pow-lt d)) (eq-or-lt_of_le (omega arith)) in
      omega (arith, packed_lt from many)

-- one more before them, as the code counts
pub packed-down : (f : ℕ → ℕ) (i to : ℕ) {v b : ℕ} → 0 < i → i ≤ to → v ≡ packed f i (to - i) → b ≡ f (i - 1) → 2 * v + b ≡ packed f (i - 1) (to - (i - 1))
unfolding packed
packed-down f i to {v} {b} h l e k =
    let d : to - (i - 1) ≡ suc (to - i) = omega arith in
    let p : i ≡ suc (i - 1) = omega arith in
    ap₂ (λ (x y : ℕ). 2 * x + y) e k ∙ ap (λ (x : ℕ). x + f (i - 1)) (mul_comm 2 (packed f i (to - i)))
    ∙ ap (λ (x : ℕ). packed f x (to - i) * 2 + f (i - 1)) p ∙ sym (ap (packed f (i - 1)) d)
