-- What a fresh call leaves, a law for each answer. Assumes nothing.
use mathlib.Core.Path.{◌≡◌, ap}
use mathlib.Core.Bool.{true, false}
use mathlib.Core.List.{List, ◌++◌, append-nil}
use Prim.Native.Nat.{ℕ, suc, ◌+◌, ◌*◌, ◌-◌, ◌≤◌}
use native.Mathlib.Nat.{suc-mul, sub-zero}
use native.Mathlib.Omega.{arith}
use lib.Ieee.{Float}
use lib.ListN.{length, replicate}
use Rattle.model.specs.Lists.{joined}
use Rattle.model.specs.Floats.{float, one_bits, above}
use Rattle.model.specs.Entries.{entry_len, words_of, pack}
use Rattle.model.specs.Keys.{usual_salts, keyed}
use Rattle.model.specs.Numbers.{first_of, size_sound, bounds_sound}
use Rattle.model.specs.Calls.{fresh, fresh_entry, fresh_entries, fresh_tests, unless, begins, start_dirty, start_keyed, zero_header, header_of, plain_answer, left_by, start, gave}
use Rattle.model.specs.declared.Size.{Size}
use Rattle.model.specs.declared.Header.{Header}
use Rattle.model.specs.declared.Answer.{Answer}
use Rattle.model.specs.Sound.{Sized}
use Rattle.model.proofs.Shape.{sized}
use Rattle.entries.specs.Within.{Within}

-- the first slot and the others
pub slots : (s : Size) (len : ℕ) → Sized s len → len ≡ entry_len s + (s.capacity - 1) * entry_len s
slots s len h =
    let one : s.capacity ≡ suc (s.capacity - 1) = omega (arith, h.capacity.low) in
    omega (arith, ap (λ (c : ℕ). c * entry_len s) one, suc-mul (s.capacity - 1) (entry_len s), h.words)

module _ (s : Size) (len : ℕ) (e : size_sound s len ≡ true) where
  pub within : Within s
  within = let h = sized s len e in record { qubits = h.qubits.high; coefficients = h.coefficients.high }

  pub few : 1 ≤ s.k
  few = (sized s len e).coefficients.low

  pub slots-fit : entry_len s ≤ len
  slots-fit = omega (arith, slots s len (sized s len e))

module _ (s : Size) (threshold cutoff : Float) (w : List ℕ) where
  abbrev header : ℕ → Header
  header count = header_of s count threshold cutoff false

  -- 1
  pub refused-size : {r : Answer} {h : Header} → r ≡ plain_answer h 1 → h ≡ zero_header → size_sound s (length w) ≡ false
      → gave r w ≡ start (fresh s threshold cutoff) w
  unfolding start begins fresh_tests unless first_of left_by
  refused-size e z p = rw (e, z, p)

  -- 2
  pub refused-bounds : {r : Answer} {h : Header} → r ≡ plain_answer h 2 → h ≡ zero_header → size_sound s (length w) ≡ true → bounds_sound threshold cutoff ≡ false
      → gave r w ≡ start (fresh s threshold cutoff) w
  unfolding start begins fresh_tests unless first_of left_by
  refused-bounds e z p q = rw (e, z, p, q)

  -- 0
  module _ {r : Answer} {v : List ℕ} (p : size_sound s (length w) ≡ true) (q : bounds_sound threshold cutoff ≡ true) where
    pub empty : {h : Header} → r ≡ plain_answer h 0 → h ≡ header 0 → v ≡ replicate (length w) 0 → above (float one_bits) cutoff ≡ false → gave r v ≡ start (fresh s threshold cutoff) w
    unfolding start begins fresh_tests unless first_of left_by fresh_entries start_dirty pack joined
    empty e g f a = rw (e, g, f, p, q, a, sub-zero) (ap (λ (m : ℕ). gave (plain_answer (header 0) 0) (replicate m 0)) (sized s (length w) p).words)

    pub one_entry : {h : Header} → r ≡ plain_answer h 0 → h ≡ header 1 → v ≡ words_of (keyed usual_salts s.n (fresh_entry s)) ++ replicate (length w - entry_len s) 0
        → above (float one_bits) cutoff ≡ true → gave r v ≡ start (fresh s threshold cutoff) w
    unfolding start begins fresh_tests unless first_of left_by fresh_entries start_dirty start_keyed pack joined
    one_entry e g f a =
        let past : length w - entry_len s ≡ (s.capacity - 1) * entry_len s = omega (arith, slots s (length w) (sized s (length w) p)) in
        rw (e, g, f, p, q, a, past, append-nil)
