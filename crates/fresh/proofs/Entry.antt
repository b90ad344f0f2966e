-- The fresh entry, as it is written: 0 in each place before the rows, then the rows, and the words before them over those zeros. Assumes nothing.
use mathlib.Core.Path.{◌≡◌, sym, ap, ap₂, ◌∙◌}
use mathlib.Core.List.{List, ◌++◌}
use Prim.Native.Nat.{ℕ, ◌+◌, ◌*◌, ◌-◌, ◌≤◌}
use native.Mathlib.Omega.{arith}
use lib.ListN.{set, replicate, replicate-append-replicate}
use Rattle.model.specs.Floats.{one_bits}
use Rattle.model.specs.Entries.{rows_below, head_len, coefs_len, words_of, x_at, z_at, phase_at}
use Rattle.model.specs.Keys.{usual_salts, bit, word_key, phase_loss_key, word_key_of, phase_loss_key_of, keyed}
use Rattle.model.specs.Calls.{fresh_row, fresh_entry}
use Rattle.model.specs.declared.Size.{Size}

-- words before the rows
abbrev pub rows_start : Size → ℕ
rows_start s = head_len + coefs_len s

abbrev pub fresh_rows : Size → List ℕ
fresh_rows s = rows_below (fresh_row s.n) (2 * s.n)

module _ (s : Size) {head rows : List ℕ} (h : head ≡ replicate (rows_start s) 0) (r : rows ≡ fresh_rows s) where
  pub head-written : (key phase : ℕ) → 1 ≤ s.k → key ≡ word_key (2 * s.n) (x_at rows) (z_at rows) → phase ≡ phase_loss_key usual_salts s.n (phase_at rows) (λ q. bit q 0)
      → set (set (set (set (set head 0 one_bits) 2 key) 3 phase) 4 1) 6 one_bits ++ rows ≡ words_of (keyed usual_salts s.n (fresh_entry s))
  unfolding fresh_entry keyed words_of word_key_of phase_loss_key_of
  head-written key phase k p q =
      let eight : rows_start s ≡ 8 + (coefs_len s - 3) = omega arith in
      ap₂ (λ (x y : List ℕ). set (set (set (set (set x 0 one_bits) 2 key) 3 phase) 4 1) 6 one_bits ++ y)
      (h ∙ ap (λ (m : ℕ). replicate m 0) eight ∙ sym (replicate-append-replicate 8 (coefs_len s - 3) 0)) r
      ∙ rw (p, q, r)
