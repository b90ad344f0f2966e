-- The Paulis by the gates' own rules: S twice flips the signs that Z does, H, S, S, H those that X does, and one after the other those that
-- Y does. (Y is the product of X and Z but for a factor, which no sign shows.) Assumes nothing.
use mathlib.Core.Path.{◌≡◌, refl, sym, ap, ap₂, ◌∙◌}
use mathlib.Core.List.{List, [], ◌∷◌}
use Prim.Native.Nat.{ℕ, zero, suc, ◌*◌, ◌^◌, ◌<◌}
use native.Mathlib.Nat.{mul_comm}
use native.Mathlib.Omega.{arith}
use lib.Bits.{bit_xor, xor_comm, xor_lt, xor_zero_r}
use Rattle.model.specs.Entries.{Row}
use Rattle.model.specs.Keys.{bit, if_set}
use Rattle.model.specs.Changes.{flips, flips_by, flipped_row}
use Rattle.model.specs.Gates.{xor_bit, xor_sign, turned_row}
use Rattle.model.specs.declared.BranchMutation.TheVariants.{Pauli as pauli}
use Rattle.model.specs.declared.Gate.{Gate}
use Rattle.model.specs.declared.Gate.TheVariants.{H, S}
use Rattle.model.specs.declared.Pauli.TheVariants.{X, Y, Z}
use Rattle.model.proofs.Xor.{xor_assoc, xor-cancel, xor-cancel-left}
use Rattle.model.proofs.IfSet.{bit-lt, bit-xor, bit-picked, if_set-bits, product_lt}
use Rattle.model.proofs.Rows.{same_row}

-- a row turned by gates, one after the other
unfoldable pub turned_by : List Gate → Row → Row
turned_by [] r = r
turned_by (g ∷ gs) r = turned_by gs (turned_row g r)

-- ---- bits

module _ (w q b : ℕ) where
  -- bit q is XORed with b
  pub bit-flipped : b < 2 → bit q (xor_bit w q b) ≡ bit_xor (bit q w) b
  bit-flipped h = bit-xor q w (if_set b (2 ^ q)) ∙ ap (bit_xor (bit q w)) (bit-picked q b h)

  -- twice with the same bit is not at all
  pub undone : (c : ℕ) → c ≡ b → xor_bit (xor_bit w q b) q c ≡ w
  undone c e = ap (xor_bit (xor_bit w q b) q) e ∙ xor-cancel w (if_set b (2 ^ q))

  -- with two bits is with their XOR
  joined-bits : (c : ℕ) → b < 2 → c < 2 → xor_bit (xor_bit w q b) q c ≡ xor_bit w q (bit_xor b c)
  joined-bits c h k = xor_assoc w (if_set b (2 ^ q)) (if_set c (2 ^ q)) ∙ ap (bit_xor w) (sym (if_set-bits b c (2 ^ q) h k))

-- of two XORs, either may come first
xor-last : (a b c : ℕ) → bit_xor (bit_xor a b) c ≡ bit_xor (bit_xor a c) b
xor-last a b c = xor_assoc a b c ∙ ap (bit_xor a) (xor_comm b c) ∙ sym (xor_assoc a c b)

-- ---- Z

-- the two signs of S twice: together the bit x
own-bit : (x z : ℕ) → x < 2 → z < 2 → bit_xor (x * z) (x * bit_xor z x) ≡ x
own-bit zero zero h k = refl
own-bit zero (suc zero) h k = refl
own-bit zero (suc (suc z)) h k = absurd (omega arith)
own-bit (suc zero) zero h k = refl
own-bit (suc zero) (suc zero) h k = refl
own-bit (suc zero) (suc (suc z)) h k = absurd (omega arith)
own-bit (suc (suc x)) z h k = absurd (omega arith)

-- S twice is Z
pub z-is : (q : ℕ) (r : Row) → turned_by (S q ∷ S q ∷ []) r ≡ flipped_row (pauli Z q) r
unfolding turned_by turned_row flipped_row flips_by flips
z-is q r =
    let x = bit q r.x in
    let z = bit q r.z in
    let lx = bit-lt q r.x in
    let lz = bit-lt q r.z in
    let z' : bit q (xor_bit r.z q x) ≡ bit_xor z x = bit-flipped r.z q x lx in
    same_row refl (undone r.z q x x refl)
    (ap (λ (d : ℕ). xor_sign (xor_sign r.phase (x * z)) (x * d)) z'
    ∙ joined-bits r.phase 1 (x * z) (x * bit_xor z x) (product_lt x z lx lz) (product_lt x (bit_xor z x) lx (xor_lt 1 z x lz lx))
    ∙ ap (xor_sign r.phase) (own-bit x z lx lz))

-- ---- X

module _ (q : ℕ) (r : Row) where
  abbrev x : ℕ
  x = bit q r.x

  abbrev z : ℕ
  z = bit q r.z

  differ-lt : bit_xor x z < 2
  differ-lt = xor_lt 1 x z (bit-lt q r.x) (bit-lt q r.z)

  -- H exchanges x and z
  h-x : bit q (xor_bit r.x q (bit_xor x z)) ≡ z
  h-x = bit-flipped r.x q (bit_xor x z) differ-lt ∙ xor-cancel-left x z

  h-z : bit q (xor_bit r.z q (bit_xor x z)) ≡ x
  h-z = bit-flipped r.z q (bit_xor x z) differ-lt ∙ ap (bit_xor z) (xor_comm x z) ∙ xor-cancel-left z x

  -- the row that H leaves, its phase XORed with d
  abbrev after-h : ℕ → Row
  after-h d =
      record { x = xor_bit r.x q (bit_xor x z); z = xor_bit r.z q (bit_xor x z); phase = bit_xor (xor_sign r.phase (x * z)) d }

  -- a second H undoes the first, whatever flipped the sign between them
  h-again : (d : ℕ) → turned_row (H q) (after-h d) ≡ record { x = r.x; z = r.z; phase = bit_xor r.phase d }
  unfolding turned_row
  h-again d =
      let differ = bit_xor x z in
      let same : bit_xor (bit q (after-h d).x) (bit q (after-h d).z) ≡ differ = ap₂ bit_xor h-x h-z ∙ xor_comm z x in
      let sign : bit q (after-h d).x * bit q (after-h d).z ≡ x * z = ap₂ ◌*◌ h-x h-z ∙ mul_comm z x in
      same_row (undone r.x q differ _ same) (undone r.z q differ _ same)
      (xor-last (xor_sign r.phase (x * z)) d _ ∙ ap (λ (p : ℕ). bit_xor p d) (undone r.phase 1 (x * z) _ sign))

  pub h-undoes : turned_by (H q ∷ H q ∷ []) r ≡ r
  unfolding turned_by turned_row
  h-undoes =
      ap (λ (p : ℕ). turned_row (H q) (record { x = (after-h 0).x; z = (after-h 0).z; phase = p }))
      (sym (xor_zero_r (xor_sign r.phase (x * z))))
      ∙ h-again 0 ∙ same_row refl refl (xor_zero_r r.phase)

  -- H, S, S, H is X
  pub x-is : turned_by (H q ∷ S q ∷ S q ∷ H q ∷ []) r ≡ flipped_row (pauli X q) r
  unfolding turned_by turned_row flipped_row flips_by flips
  x-is =
      ap (turned_row (H q)) (z-is q (turned_row (H q) r))
      ∙ ap (λ (b : ℕ). turned_row (H q) (after-h (if_set b 2))) h-x
      ∙ h-again (if_set z 2)

  -- ---- Y

  -- the rows that X flips, and those that Z does: a row flipped twice is as it was
  pub y-flips : flipped_row (pauli X q) (flipped_row (pauli Z q) r) ≡ flipped_row (pauli Y q) r
  unfolding flipped_row flips_by flips
  y-flips =
      same_row refl refl
      (xor_assoc r.phase (if_set x 2) (if_set z 2) ∙ ap (bit_xor r.phase) (sym (if_set-bits x z 2 (bit-lt q r.x) (bit-lt q r.z))))

-- S, S and then H, S, S, H is Y
pub y-is : (q : ℕ) (r : Row) → turned_by (S q ∷ S q ∷ H q ∷ S q ∷ S q ∷ H q ∷ []) r ≡ flipped_row (pauli Y q) r
unfolding turned_by
y-is q r = x-is q (turned_by (S q ∷ S q ∷ []) r) ∙ ap (flipped_row (pauli X q)) (z-is q r) ∙ y-flips q r
