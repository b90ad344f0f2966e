-- What the tests of a channel's qubits and rates say. Assumes nothing.
use mathlib.Core.Path.{◌≡◌, refl}
use mathlib.Core.Bool.{Bool, true, false, not}
use mathlib.Core.List.{[], ◌∷◌}
use Prim.Native.Nat.{ℕ}
use lib.Ieee.{Float, lt}
use Rattle.model.specs.Lists.{every}
use Rattle.model.specs.Floats.{float, zero_bits, one_bits, up_to}
use Rattle.model.specs.Channels.{Noise, qubits, folded_to, total_rate}
use Rattle.model.specs.Numbers.{gives, first_of, some_not_below, rates, rates_sound}
use Rattle.model.specs.Calls.{noise, argument_tests}
use Rattle.model.specs.declared.Size.{Size}
use Rattle.arms.specs.Arms.{arms_list, shape_qubits, Stands}
use Rattle.arms.specs.declared.Arms.{Arms}

-- ---- number 4

not-not : (b : Bool) → b ≡ not (not b)
not-not true = refl
not-not false = refl

module _ (r : Arms) (c : Noise) (h : Stands r c) where
  -- the named rates are sound: it is for their total to be tested
  pub by_total : {t : Float} → t ≡ folded_to (float zero_bits) (arms_list r) → true ≡ every (up_to (float one_bits)) (rates c) → lt (float one_bits) t ≡ not (rates_sound c)
  unfolding rates_sound total_rate
  by_total e n = rw (← n, e, h.rates) (not-not (lt (float one_bits) (total_rate c)))

pub by-rate : (c : Noise) → false ≡ every (up_to (float one_bits)) (rates c) → true ≡ not (rates_sound c)
unfolding rates_sound
by-rate c n = rw (← n)

-- ---- 3, and then 4

abbrev pub own_number : ℕ → Noise → ℕ
own_number n c = first_of (gives 3 (some_not_below n (qubits c)) ∷ gives 4 (not (rates_sound c)) ∷ [])

pub own_is : (c : Noise) (s : Size) (count : ℕ) → own_number s.n c ≡ first_of (argument_tests (noise c) s count)
unfolding argument_tests
own_is c s count = refl

module _ (n : ℕ) (r : Arms) (c : Noise) (h : Stands r c) where
  pub misplaced : {b : Bool} → b ≡ some_not_below n (shape_qubits r.shape) → b ≡ true → 3 ≡ own_number n c
  unfolding first_of
  misplaced e t = rw (← h.places, ← e, t)

  pub placed : {b t : Bool} → b ≡ some_not_below n (shape_qubits r.shape) → b ≡ false → t ≡ not (rates_sound c) → first_of (gives 4 t ∷ []) ≡ own_number n c
  unfolding first_of
  placed e f p = rw (← h.places, ← e, f, p)
