-- Steps as three slices have them, for callers that have no enum: kinds, qubits, and three rates for each. Assumes nothing.
use Rattle.std.specs.Prelude.{ℕ, ◌*◌, Bool, cond, ◌&&◌, List, [], ◌∷◌, eqb, ltb, Float, length}
use Rattle.model.specs.Lists.{every}
use Rattle.model.specs.Calls.{Left, gave, plain_answer, zero_header}
use Rattle.model.specs.Trials.{plan_of, tried}
use Rattle.model.specs.declared.Size.{Size}
use Rattle.model.specs.declared.Channel.{Channel}
use Rattle.model.specs.declared.Channel.TheVariants.{Pauli, Loss, Depolarizing}

-- 0: a Pauli channel with its three rates. 1, 2: loss, depolarising, with the first of them
unfoldable pub channel_of : (kind : ℕ) → Float → Float → Float → Channel
channel_of kind x y z = cond (eqb kind 0) (Pauli x y z) (cond (eqb kind 1) (Loss x) (Depolarizing x))

abbrev pub known : (kind : ℕ) → Bool
known kind = ltb kind 3

unfoldable pub channels_in : List ℕ → List Float → List Channel
channels_in [] rates = []
channels_in (k ∷ ks) [] = []
channels_in (k ∷ ks) (x ∷ []) = []
channels_in (k ∷ ks) (x ∷ y ∷ []) = []
channels_in (k ∷ ks) (x ∷ y ∷ z ∷ rates) = channel_of k x y z ∷ channels_in ks rates

-- known kinds, and so many qubits and rates: one and three for each
unfoldable pub well_formed : List ℕ → (qubits rates : ℕ) → Bool
well_formed kinds qubits rates = eqb qubits (length kinds) && eqb rates (3 * length kinds) && every known kinds

-- the number of slices that are not: no call gives it
abbrev pub does_not_fit : ℕ
does_not_fit = 19

-- ONE CALL with steps from slices
unfoldable pub tried_from : Size → Float → List Float → (kinds qubits : List ℕ) → List Float → (room : ℕ) → List ℕ → Left
tried_from s threshold cutoffs kinds qubits rates room w =
    cond (well_formed kinds (length qubits) (length rates))
    (tried (plan_of s threshold cutoffs (channels_in kinds rates) qubits (length kinds)) room w)
    (gave (plain_answer zero_header does_not_fit) w)
