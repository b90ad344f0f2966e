-- The rates of a noise are sound or not whatever its qubits. Assumes nothing.
use mathlib.Core.Path.{◌≡◌, refl, ap}
use mathlib.Core.Bool.{Bool, true, false, not, ◌&&◌}
use mathlib.Core.List.{List, [], ◌∷◌}
use Prim.Native.Nat.{ℕ}
use lib.Ieee.{Float}
use lib.ListN.{replicate}
use Rattle.model.specs.Lists.{every}
use Rattle.model.specs.Floats.{float, zero_bits, one_bits, plus, over, above, up_to}
use Rattle.model.specs.Channels.{one, two, depolarize2, Pair, pauli_pairs, pair_arms, pauli_arms, channel_arms, arms, folded_to, total_rate}
use Rattle.model.specs.Numbers.{rates, rates_sound}
use Rattle.model.specs.declared.Channel.{Channel}
use Rattle.model.specs.declared.Channel.TheVariants.{Pauli, Loss, Depolarizing}

-- what is not refused is sound
pub not-refused : {r b : Bool} → r ≡ not b → not r ≡ b
not-refused {b = true} e = ap not e
not-refused {b = false} e = ap not e

pub one-anywhere : (c : Channel) (p q : ℕ) → rates_sound (one c p) ≡ rates_sound (one c q)
unfolding rates_sound rates total_rate arms channel_arms pauli_arms folded_to
one-anywhere (Pauli x y z) p q = refl
one-anywhere (Loss x) p q = refl
one-anywhere (Depolarizing x) p q = refl

-- the total of pairs of Paulis
paired : (a b p q : ℕ) (t : Float) (ps : List Pair) (rs : List Float) → folded_to t (pair_arms a b ps rs) ≡ folded_to t (pair_arms p q ps rs)
unfolding pair_arms folded_to
paired a b p q t [] rs = refl
paired a b p q t (x ∷ ps) [] = refl
paired a b p q t (x ∷ ps) (r ∷ rs) = paired a b p q (plus t r) ps rs

-- .. is at most 1, and each rate is
abbrev within : List Float → Float → Bool
within rs t = every (up_to (float one_bits)) rs && not (above t (float one_bits))

pub two-anywhere : (rs : List Float) (a b p q : ℕ) → rates_sound (two rs a b) ≡ rates_sound (two rs p q)
unfolding rates_sound rates total_rate arms
two-anywhere rs a b p q = ap (within rs) (paired a b p q (float zero_bits) pauli_pairs rs)

pub depolarize2-anywhere : (x : Float) (a b p q : ℕ) → rates_sound (depolarize2 x a b) ≡ rates_sound (depolarize2 x p q)
unfolding rates_sound rates total_rate arms
depolarize2-anywhere x a b p q =
    ap (within (x ∷ [])) (paired a b p q (float zero_bits) pauli_pairs (replicate 15 (over x (float 0x402e_0000_0000_0000))))
