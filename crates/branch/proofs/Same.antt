-- Words compared: what two words differ in is 0 exactly if they are the same, and three words alike make a row alike. Assumes nothing.
use mathlib.Core.Path.{◌≡◌, refl, sym, ap, ap₂, ◌∙◌}
use mathlib.Core.Bool.{Bool, true, false, ◌&&◌}
use mathlib.Core.List.{List}
use Prim.Native.Nat.{ℕ, ◌+◌, ◌*◌, ◌<◌}
use native.Mathlib.Omega.{arith}
use lib.Bits.{bit_or, bit_xor, xor_self, xor_zero_r}
use lib.Dec.{eqb}
use lib.ListN.{get_or}
use borrow.Author.Tests.{eqb-true, eqb-false, eq-eqb, ne_eqb}
use Rattle.model.specs.Lists.{all_below}
use Rattle.model.specs.Entries.{row_at, x_at, z_at, row_words}
use Rattle.model.specs.Keys.{if_set}
use Rattle.model.specs.Changes.{flips_by, flipped_row}
use Rattle.model.specs.declared.BranchMutation.{BranchMutation}
use Rattle.model.proofs.Rows.{words_below-at}
use Rattle.model.proofs.Lists.{all-next}
use Rattle.model.proofs.Xor.{xor-cancel-left, or-zero}
use Rattle.branch.specs.Flips.{flipped_rows}
use Rattle.branch.specs.Same.{same_word, same_pauli}

-- ---- the OR of what they differ in

xor-zero : (a b : ℕ) → eqb (bit_xor a b) 0 ≡ eqb a b
xor-zero a b = go (eqb a b) refl
  where
    go : (t : Bool) → eqb a b ≡ t → eqb (bit_xor a b) 0 ≡ t
    go true h = eq-eqb (bit_xor a b) 0 (ap (λ (x : ℕ). bit_xor x b) (eqb-true a b h) ∙ xor_self b)
    go false h = ne_eqb (bit_xor a b) 0 (λ e. eqb-false a b h (sym (sym (xor-cancel-left a b) ∙ ap (bit_xor a) e ∙ xor_zero_r a)))

-- a turn
pub words-next : (e p : List ℕ) (differ i : ℕ) → eqb differ 0 ≡ all_below (same_word e p) i → eqb (bit_or differ (bit_xor (get_or e i 0) (get_or p i 0))) 0 ≡ all_below (same_word e p) (i + 1)
words-next e p differ i h =
    or-zero differ (bit_xor (get_or e i 0) (get_or p i 0)) ∙ ap₂ ◌&&◌ h (xor-zero (get_or e i 0) (get_or p i 0)) ∙ sym (all-next (same_word e p) i)

-- three ORs, each with one more
regroup : (a b c d e f : Bool) → (a && d && (b && e) && (c && f)) ≡ (a && b && c && d && e && f)
regroup false b c d e f = refl
regroup true false c false e f = refl
regroup true false c true e f = refl
regroup true true false false e f = refl
regroup true true false true false f = refl
regroup true true false true true f = refl
regroup true true true false e f = refl
regroup true true true true false f = refl
regroup true true true true true f = refl

two-ors : (x z phase : ℕ) → eqb (bit_or (bit_or x z) phase) 0 ≡ (eqb x 0 && eqb z 0 && eqb phase 0)
two-ors x z phase = or-zero (bit_or x z) phase ∙ ap (λ (t : Bool). t && eqb phase 0) (or-zero x z)

three-ors : (x a z b phase c : ℕ) → eqb (bit_or (bit_or (bit_or x a) (bit_or z b)) (bit_or phase c)) 0 ≡ (eqb x 0 && eqb z 0 && eqb phase 0 && eqb a 0 && eqb b 0 && eqb c 0)
three-ors x a z b phase c =
    two-ors (bit_or x a) (bit_or z b) (bit_or phase c)
    ∙ ap₂ (λ (s t : Bool). s && t) (ap₂ (λ (s t : Bool). s && t) (or-zero x a) (or-zero z b)) (or-zero phase c)
    ∙ regroup (eqb x 0) (eqb z 0) (eqb phase 0) (eqb a 0) (eqb b 0) (eqb c 0)

-- ---- x and z alone

two-more : (a b d e : Bool) → (a && d && (b && e)) ≡ (a && b && (d && e))
two-more false b d e = refl
two-more true false false e = refl
two-more true false true e = refl
two-more true true d e = refl

-- a turn
pub paulis-next : (e p : List ℕ) (x z i : ℕ) → eqb (bit_or x z) 0 ≡ all_below (same_pauli e p) i
    → eqb (bit_or (bit_or x (bit_xor (x_at e i) (x_at p i))) (bit_or z (bit_xor (z_at e i) (z_at p i)))) 0 ≡ all_below (same_pauli e p) (i + 1)
paulis-next e p x z i h =
    let a = bit_xor (x_at e i) (x_at p i) in
    let b = bit_xor (z_at e i) (z_at p i) in
    or-zero (bit_or x a) (bit_or z b) ∙ ap₂ (λ (s t : Bool). s && t) (or-zero x a) (or-zero z b) ∙ two-more (eqb x 0) (eqb z 0) (eqb a 0) (eqb b 0)
    ∙ ap₂ (λ (s t : Bool). s && t) (sym (or-zero x z) ∙ h) (ap₂ (λ (s t : Bool). s && t) (xor-zero (x_at e i) (x_at p i)) (xor-zero (z_at e i) (z_at p i)))
    ∙ sym (all-next (same_pauli e p) i)

-- ---- row by row

module _ (e p : List ℕ) (rows : ℕ) (m : BranchMutation) where
  abbrev pub same_at : ℕ → Bool
  same_at = same_word e (flipped_rows m rows p)

  -- word j of row i
  word : (i j : ℕ) → i < rows → j < 3 → get_or (flipped_rows m rows p) (3 * i + j) 0 ≡ get_or (row_words (flipped_row m (row_at p i))) j 0
  unfolding flipped_rows
  word = words_below-at 3 (λ i. row_words (flipped_row m (row_at p i))) (λ i. refl) rows

  module _ (i : ℕ) (h : i < rows) where
    x-word : get_or (flipped_rows m rows p) (3 * i) 0 ≡ get_or p (3 * i) 0
    unfolding flipped_row
    x-word = ap (λ (k : ℕ). get_or (flipped_rows m rows p) k 0) (omega arith) ∙ word i 0 h (omega arith)

    z_word : get_or (flipped_rows m rows p) (3 * i + 1) 0 ≡ get_or p (3 * i + 1) 0
    unfolding flipped_row
    z_word = word i 1 h (omega arith)

    phase-word : {t : ℕ} → t ≡ if_set (flips_by m (row_at p i)) 2 → get_or (flipped_rows m rows p) (3 * i + 2) 0 ≡ bit_xor (get_or p (3 * i + 2) 0) t
    unfolding flipped_row
    phase-word f = word i 2 h (omega arith) ∙ ap (bit_xor (get_or p (3 * i + 2) 0)) (sym f)

    -- a turn: the OR of what their words differ in, apart for x, z and phases
    pub row_next : (x z phase : ℕ) {t : ℕ} → t ≡ if_set (flips_by m (row_at p i)) 2 → eqb (bit_or (bit_or x z) phase) 0 ≡ all_below same_at (3 * i)
        → eqb (bit_or (bit_or (bit_or x (bit_xor (get_or e (3 * i) 0) (get_or p (3 * i) 0))) (bit_or z (bit_xor (get_or e (3 * i + 1) 0) (get_or p (3 * i + 1) 0))))
        (bit_or phase (bit_xor (get_or e (3 * i + 2) 0) (bit_xor (get_or p (3 * i + 2) 0) t)))) 0 ≡ all_below same_at (3 * (i + 1))
    row_next x z phase {t} f h =
        let a = eqb (get_or e (3 * i) 0) (get_or p (3 * i) 0) in
        let b = eqb (get_or e (3 * i + 1) 0) (get_or p (3 * i + 1) 0) in
        let c = eqb (get_or e (3 * i + 2) 0) (bit_xor (get_or p (3 * i + 2) 0) t) in
        let three : 3 * (i + 1) ≡ 3 * i + 1 + 1 + 1 = omega arith in
        let two : 3 * i + 1 + 1 ≡ 3 * i + 2 = omega arith in
        let same : (j v : ℕ) → get_or (flipped_rows m rows p) j 0 ≡ v → same_at j ≡ eqb (get_or e j 0) v = λ j v w. ap (eqb (get_or e j 0)) w in
        three-ors x _ z _ phase _
        ∙ ap₂ (λ (u v : Bool). u && v) (ap₂ (λ (u v : Bool). u && v) (ap₂ (λ (u v : Bool). u && v) (sym (two-ors x z phase) ∙ h) (xor-zero (get_or e (3 * i) 0) (get_or p (3 * i) 0))) (xor-zero (get_or e (3 * i + 1) 0) (get_or p (3 * i + 1) 0)))
        (xor-zero (get_or e (3 * i + 2) 0) (bit_xor (get_or p (3 * i + 2) 0) t))
        ∙ sym
        (ap (all_below same_at) three
        ∙ all-next same_at (3 * i + 1 + 1)
        ∙ ap₂ (λ (u v : Bool). u && v)
        (all-next same_at (3 * i + 1)
        ∙ ap₂ (λ (u v : Bool). u && v) (all-next same_at (3 * i) ∙ ap (λ (v : Bool). all_below same_at (3 * i) && v) (same (3 * i) (get_or p (3 * i) 0) x-word)) (same (3 * i + 1) (get_or p (3 * i + 1) 0) z_word))
        (ap same_at two ∙ same (3 * i + 2) (bit_xor (get_or p (3 * i + 2) 0) t) (phase-word f)))
