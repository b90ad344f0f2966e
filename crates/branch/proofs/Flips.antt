-- Bits of the rows that a mutation flips: of those that are left, the first one and the rest. Assumes nothing.
use mathlib.Core.Path.{◌≡◌, sym, ap, ◌∙◌}
use mathlib.Core.List.{List}
use Prim.Native.Nat.{ℕ, suc, ◌+◌, ◌*◌, ◌-◌, ◌/◌, ◌%◌, ◌<◌}
use native.Mathlib.Numerals.{add-one}
use native.Mathlib.Omega.{arith}
use Rattle.model.specs.Entries.{row_at}
use Rattle.model.specs.Keys.{if_set}
use Rattle.model.specs.Changes.{flips_by}
use Rattle.model.specs.declared.BranchMutation.{BranchMutation}
use Rattle.changes.specs.Changes.{flip_bits}
use Rattle.changes.proofs.ChangeTables.{if_set-times}
use Rattle.changes.proofs.Flips.{flips_by-lt}
use Rattle.changes.proofs.Packed.{packed-first, packed-rest}

module _ (m : BranchMutation) (rows : List ℕ) where
  abbrev flag : ℕ → ℕ
  flag r = flips_by m (row_at rows r)

  few : (r : ℕ) → flag r < 2
  few r = flips_by-lt m (row_at rows r)

  -- a phase is XORed with twice the bit
  pub bit-twice : (r : ℕ) {b : ℕ} → b ≡ flag r → 2 * b ≡ if_set (flag r) 2
  bit-twice r e = ap (λ (x : ℕ). 2 * x) e ∙ if_set-times (flag r) 2 (few r)

  -- of those that are left from row i on, the first one, and the rest
  module _ {left : ℕ} (i many : ℕ) (h : i < many) (e : left ≡ flip_bits m rows i (many - i)) where
    d : many - i ≡ suc (many - (i + 1))
    d = omega arith

    pub first-left : left % 2 ≡ flag i
    unfolding flip_bits
    first-left = ap (λ (w : ℕ). w % 2) (e ∙ ap (flip_bits m rows i) d) ∙ packed-first flag few i (many - (i + 1))

    pub rest-left : left / 2 ≡ flip_bits m rows (i + 1) (many - (i + 1))
    unfolding flip_bits
    rest-left =
        ap (λ (w : ℕ). w / 2) (e ∙ ap (flip_bits m rows i) d) ∙ packed-rest flag few i (many - (i + 1)) ∙ ap (λ (k : ℕ). flip_bits m rows k (many - (i + 1))) (sym (add-one i))
