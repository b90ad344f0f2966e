-- A table of phase masks, filled row by row; the key of rows whose phases pick from it; a loss word with no qubit lost. Assumes nothing.
use Rattle.std.proofs.Common.{◌≡◌, ℕ, zero, suc, ◌+◌, ◌*◌, ◌%◌, ◌^◌, ◌<◌, ◌≤◌, List, get_or, set, replicate, sym, refl, ap, ◌∙◌, ap₂, ⊎_elim, le_of_suc-le-suc, eq-or-lt_of_le, arith, length-set, get_or-set_other, get_or-set_same}
use native.Mathlib.Nat.{zero-div}
use lib.Bits.{bit_xor, xor_zero_r}
use lib.ListN.{length-replicate}
use Rattle.model.specs.Entries.{phase_at}
use Rattle.model.specs.Keys.{row_mask, bit, if_set, mask_xor, phase_mask, phase_part}
use Rattle.model.specs.declared.Salts.{Salts}
use Rattle.model.proofs.Sums.{mask_xor-ext, mask_xor-clear, phase_part-next}
use Rattle.keys.specs.Tables.{PhaseMasks}

-- ---- a table filled

zeros-at : (n k : ℕ) → ◌≡◌ {A = ℕ} (get_or (replicate n 0) k 0) 0
zeros-at zero k = refl
zeros-at (suc n) zero = refl
zeros-at (suc n) (suc k) = zeros-at n k

-- the first i rows have their masks, and the words behind are 0
pub record Filled (s : Salts) (i : ℕ) (t : List ℕ) : Type 0 where
  pub masks : PhaseMasks s i t
  pub zeros : (k : ℕ) → 4 * i ≤ k → get_or t k 0 ≡ 0

pub filled_none : (s : Salts) → Filled s 0 (replicate 512 0)
filled_none s =
    record { masks = record { words = length-replicate {A = ℕ} 512 0; at = λ i p h l. absurd (omega arith) }; zeros = λ k h. zeros-at 512 k }

module _ (s : Salts) (i : ℕ) (t : List ℕ) where
  abbrev imag : ℕ
  imag = row_mask i s.imag

  abbrev sign : ℕ
  sign = row_mask i s.sign

  -- the three words written
  abbrev one : List ℕ
  one = set t (4 * i + 1) imag

  abbrev two : List ℕ
  two = set one (4 * i + 2) sign

  abbrev three : List ℕ
  three = set two (4 * i + 3) (bit_xor imag sign)

  elsewhere : (k : ℕ) → (k ≡ 4 * i + 1 → ⊥) → (k ≡ 4 * i + 2 → ⊥) → (k ≡ 4 * i + 3 → ⊥) → get_or three k 0 ≡ get_or t k 0
  elsewhere k a b c = get_or-set_other two (4 * i + 3) k (bit_xor imag sign) 0 c ∙ get_or-set_other one (4 * i + 2) k sign 0 b ∙ get_or-set_other t (4 * i + 1) k imag 0 a

  module _ (l : i < 128) (f : Filled s i t) where
    own : (p : ℕ) → p < 4 → get_or three (4 * i + p) 0 ≡ phase_mask s i p
    unfolding phase_mask if_set
    own zero h = elsewhere (4 * i + 0) (λ e. omega arith) (λ e. omega arith) (λ e. omega arith) ∙ f.zeros (4 * i + 0) (omega arith)
    own (suc zero) h =
        get_or-set_other two (4 * i + 3) (4 * i + 1) (bit_xor imag sign) 0 (λ e. omega arith) ∙ get_or-set_other one (4 * i + 2) (4 * i + 1) sign 0 (λ e. omega arith)
        ∙ get_or-set_same t (4 * i + 1) imag 0 (omega (arith, f.masks.words)) ∙ sym (xor_zero_r imag)
    own (suc (suc zero)) h =
        get_or-set_other two (4 * i + 3) (4 * i + 2) (bit_xor imag sign) 0 (λ e. omega arith)
        ∙ get_or-set_same one (4 * i + 2) sign 0 (omega (arith, f.masks.words, length-set t (4 * i + 1) imag))
    own (suc (suc (suc zero))) h =
        get_or-set_same two (4 * i + 3) (bit_xor imag sign) 0 (omega (arith, f.masks.words, length-set t (4 * i + 1) imag, length-set one (4 * i + 2) sign))
    own (suc (suc (suc (suc p)))) h = absurd (omega arith)

    at : (r p : ℕ) → r < i + 1 → p < 4 → get_or three (4 * r + p) 0 ≡ phase_mask s r p
    at r p h b =
        let c : suc r ≤ suc i = omega arith in
        ⊎_elim
        (λ (e : r ≡ i). ap (λ (k : ℕ). get_or three (4 * k + p) 0) e ∙ own p b ∙ ap (λ (k : ℕ). phase_mask s k p) (sym e))
        (λ (d : r < i). elsewhere (4 * r + p) (λ e. omega arith) (λ e. omega arith) (λ e. omega arith) ∙ f.masks.at r p d b)
        (eq-or-lt_of_le (le_of_suc-le-suc c))

    pub filled_next : Filled s (i + 1) three
    filled_next =
        record {
          masks = record { words = length-set two (4 * i + 3) (bit_xor imag sign) ∙ length-set one (4 * i + 2) sign ∙ length-set t (4 * i + 1) imag ∙ f.masks.words; at = at };
          zeros = λ k h. elsewhere k (λ e. omega arith) (λ e. omega arith) (λ e. omega arith) ∙ f.zeros k (omega arith);
        }

-- ---- a table read

-- bits of a phase above 1 do not count
low-phase : (s : Salts) (i p : ℕ) → phase_mask s i (p % 4) ≡ phase_mask s i p
unfolding phase_mask
low-phase s i p =
    let a : bit 0 (p % 4) ≡ bit 0 p = omega arith in
    let b : bit 1 (p % 4) ≡ bit 1 p = omega arith in
    ap₂ (λ (x y : ℕ). bit_xor (if_set x (row_mask i s.imag)) (if_set y (row_mask i s.sign))) a b

pub picked_next : {h : ℕ} (t rows : List ℕ) (m i : ℕ) → i < m → ((s : Salts) → PhaseMasks s m t → h ≡ phase_part s i (phase_at rows))
    → (s : Salts) → PhaseMasks s m t → bit_xor h (get_or t (4 * i + phase_at rows i % 4) 0) ≡ phase_part s (i + 1) (phase_at rows)
picked_next t rows m i l e s f =
    phase_part-next s i (phase_at rows) (e s f) (f.at i (phase_at rows i % 4) l (omega arith) ∙ low-phase s i (phase_at rows i))

-- ---- no qubit lost

pub none-lost : (salt n loss : ℕ) → loss ≡ 0 → 0 ≡ mask_xor salt n (λ q. bit q loss)
none-lost salt n loss e =
    sym (mask_xor-ext salt n (λ q. bit q loss) (λ q. 0) (λ q h. ap (bit q) e ∙ ap (λ (x : ℕ). x % 2) (zero-div (2 ^ q))) ∙ mask_xor-clear salt n)
