-- The branches of pairs, by their number, and sums of rates. Assumes nothing.
use mathlib.Core.Path.{◌≡◌, refl, sym, ap, ◌∙◌}
use mathlib.Core.List.{List, [], ◌∷◌, ◌++◌}
use Prim.Native.Nat.{ℕ, zero, suc, ◌+◌}
use native.Mathlib.Numerals.{add-one}
use native.Mathlib.Omega.{arith}
use lib.Ieee.{Float, nan}
use lib.ListN.{length, get_or, drop, replicate, drop_of_length-le}
use lib.Seq.{drop-cons}
use Rattle.model.specs.Floats.{float, zero_bits, plus, over}
use Rattle.model.specs.Channels.{Arm, two, depolarize2, arms, qubits, pair_arms, pauli_pairs, folded_to}
use Rattle.arms.specs.Arms.{pauli_at, mutation_at, arm_at, arms_below, arms_list, shape_qubits, Stands}
use Rattle.arms.specs.declared.Shape.TheVariants.{Two}
use Rattle.arms.specs.declared.Arms.{Arms}

folded-snoc : (l : List Arm) (x : Arm) (t : Float) → folded_to t (l ++ x ∷ []) ≡ plus (folded_to t l) x.rate
unfolding folded_to
folded-snoc [] x t = refl
folded-snoc (y ∷ l) x t = folded-snoc l x (plus t y.rate)

-- a list is its elements, one by one
spread : ℕ → ℕ → List Float → List Float
spread i zero l = []
spread i (suc n) l = get_or l i nan ∷ spread (suc i) n l

spread-is : (n i : ℕ) (l : List Float) → i + n ≡ length l → spread i n l ≡ drop i l
unfolding spread
spread-is zero i l e = sym (drop_of_length-le l {i = i} (omega arith))
spread-is (suc n) i l e =
    ap (λ (t : List Float). get_or l i nan ∷ t) (spread-is n (suc i) l (omega arith)) ∙ sym (drop-cons l i nan (omega arith))

-- fifteen rates, each with its pair
pub pairs-are : (rates : List Float) (p q : ℕ) → length rates ≡ 15 → arms_list (record { rates = rates; count = 15; shape = Two p q }) ≡ pair_arms p q pauli_pairs rates
unfolding arms_list arms_below mutation_at pauli_at pair_arms pauli_pairs spread
pairs-are rates p q e = ap (pair_arms p q pauli_pairs) (spread-is 15 0 rates (omega arith))

-- they are the two-qubit Pauli's, and with equal parts depolarize2's
pub pairs-stand : (rates : List Float) (p q : ℕ) → length rates ≡ 15 → Stands (record { rates = rates; count = 15; shape = Two p q }) (two rates p q)
unfolding arms qubits shape_qubits
pairs-stand rates p q e = record { few = omega arith; rates = pairs-are rates p q e; places = refl }

pub parts-stand : (rate : Float) (p q : ℕ) → Stands (record { rates = replicate 15 (over rate (float 0x402e_0000_0000_0000)); count = 15; shape = Two p q }) (depolarize2 rate p q)
unfolding arms qubits shape_qubits
parts-stand rate p q = record { few = omega arith; rates = pairs-are (replicate 15 (over rate (float 0x402e_0000_0000_0000))) p q refl; places = refl }

-- the rates added up, one more
pub total-next : (r : Arms) (a : ℕ) (t : Float) → t ≡ folded_to (float zero_bits) (arms_below r a) → plus t (get_or r.rates a nan) ≡ folded_to (float zero_bits) (arms_below r (a + 1))
unfolding arms_below
total-next r a t e = sym (ap (λ (k : ℕ). folded_to (float zero_bits) (arms_below r k)) (add-one a) ∙ folded-snoc (arms_below r a) (arm_at r a) (float zero_bits) ∙ ap (λ (x : Float). plus x (get_or r.rates a nan)) (sym e))
