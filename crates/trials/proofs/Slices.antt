-- Laws of steps from slices: arrays that begin with them give the calls that they give. Assumes nothing.
use Prim.Native.Nat.{ℕ, zero, suc, ◌+◌, ◌*◌, ◌<◌, ◌≤◌}
use native.Mathlib.Nat.{suc-add}
use native.Mathlib.Numerals.{add-one}
use native.Mathlib.Omega.{arith}
use mathlib.Core.Path.{◌≡◌, refl, sym, ap, ap₂, ◌∙◌}
use mathlib.Core.Bool.{Bool, true, false}
use mathlib.Core.List.{List, [], ◌∷◌, ◌++◌}
use lib.Ieee.{Float, nan}
use lib.ListN.{length, take, set, get_or}
use lib.Seq.{take-suc, take-suc-set}
use borrow.Author.Tests.{eqb-true}
use Rattle.model.specs.Channels.{one}
use Rattle.model.specs.Calls.{Call, noise, Left, gave, plain_answer, zero_header}
use Rattle.model.specs.Trials.{step_calls, Plan, plan_of, trial_number, tried}
use Rattle.model.specs.declared.Size.{Size}
use Rattle.model.specs.declared.Channel.{Channel}
use Rattle.model.proofs.Lists.{and_both}
use Rattle.model.proofs.Trials.{judged}
use Rattle.trials.specs.Steps.{channel_of, channels_in, well_formed, does_not_fit, tried_from}
use Rattle.trials.proofs.Places.{few}
use Rattle.trials.proofs.SoFar.{tried-refused}

-- ---- an array that begins with a list's elements: the next one is put behind them

pub put-behind : {X : Type 0} (all l : List X) (i : ℕ) (v d : X) → i < length all → i < length l → v ≡ get_or l i d → take i all ≡ take i l → take (i + 1) (set all i v) ≡ take (i + 1) l
put-behind all l i v d h k e f =
    ap (λ (n : ℕ). take n (set all i v)) (add-one i)
    ∙ take-suc-set all i v h
    ∙ ap₂ (λ a x. a ++ x ∷ []) f e
    ∙ sym (take-suc l i d k)
    ∙ sym (ap (λ (n : ℕ). take n l) (add-one i))

-- ---- the channels: one for each kind

pub channels-length : (kinds : List ℕ) (rates : List Float) → length rates ≡ 3 * length kinds → length (channels_in kinds rates) ≡ length kinds
unfolding channels_in
channels-length [] rates e = refl
channels-length (k ∷ ks) [] e = absurd (omega (arith, e))
channels-length (k ∷ ks) (x ∷ []) e = absurd (omega (arith, e))
channels-length (k ∷ ks) (x ∷ y ∷ []) e = absurd (omega (arith, e))
channels-length (k ∷ ks) (x ∷ y ∷ z ∷ rates) e = ap suc (channels-length ks rates (omega (arith, e)))

-- .. with its rates
abbrev pub channel_at : List ℕ → List Float → ℕ → Channel
channel_at kinds rates i = channel_of (get_or kinds i 0) (get_or rates (3 * i) nan) (get_or rates (3 * i + 1) nan) (get_or rates (3 * i + 2) nan)

pub channels-at : (kinds : List ℕ) (rates : List Float) (i : ℕ) (d : Channel) → length rates ≡ 3 * length kinds → i < length kinds → channel_at kinds rates i ≡ get_or (channels_in kinds rates) i d
unfolding channels_in
channels-at [] rates i d e h = absurd (omega (arith, h))
channels-at (k ∷ ks) [] i d e h = absurd (omega (arith, e))
channels-at (k ∷ ks) (x ∷ []) i d e h = absurd (omega (arith, e))
channels-at (k ∷ ks) (x ∷ y ∷ []) i d e h = absurd (omega (arith, e))
channels-at (k ∷ ks) (x ∷ y ∷ z ∷ rates) zero d e h = refl
channels-at (k ∷ ks) (x ∷ y ∷ z ∷ rates) (suc i) d e h = simp (three i, suc-add) (channels-at ks rates i d (omega (arith, e)) (omega (arith, h)))
  where
    three : (i : ℕ) → 3 * suc i ≡ suc (suc (suc (3 * i)))
    three i = omega arith

-- ---- the calls of the first `count` steps depend on nothing else

steps-taken : (count : ℕ) (cs : List Channel) (qs : List ℕ) → step_calls count cs qs ≡ step_calls count (take count cs) (take count qs)
unfolding step_calls
steps-taken zero cs qs = refl
steps-taken (suc n) [] qs = refl
steps-taken (suc n) (c ∷ cs) [] = refl
steps-taken (suc n) (c ∷ cs) (q ∷ qs) = ap (λ (l : List Call). noise (one c q) ∷ l) (steps-taken n cs qs)

pub steps-same : (count : ℕ) (cs ds : List Channel) (qs ps : List ℕ) → take count cs ≡ take count ds → take count qs ≡ take count ps → step_calls count cs qs ≡ step_calls count ds ps
steps-same count cs ds qs ps e f = steps-taken count cs qs ∙ ap₂ (step_calls count) e f ∙ sym (steps-taken count ds ps)

-- ---- the call: a refused one depends on no step, and one that is not has at most 64

module _ (s : Size) (threshold : Float) (cutoffs : List Float) (count room : ℕ) (w : List ℕ) where
  module _ (cs ds : List Channel) (qs ps : List ℕ) (same : count ≤ 64 → step_calls count cs qs ≡ step_calls count ds ps) where
    abbrev p : Plan
    p = plan_of s threshold cutoffs cs qs count

    abbrev q : Plan
    q = plan_of s threshold cutoffs ds ps count

    by_number : (n : ℕ) → n ≡ trial_number p (length w) room → tried p room w ≡ tried q room w
    by_number zero z =
        ap (λ (calls : List Call). tried (record { size = s; threshold = threshold; cutoffs = cutoffs; count = count; calls = calls }) room w)
        (same (few count (length cutoffs) (judged p (length w) room (sym z)).counts).steps-64)
    by_number (suc n) e = let h : suc n ≡ 0 → ⊥ = λ z. omega (arith, z) in tried-refused p room w (suc n) e h ∙ sym (tried-refused q room w (suc n) e h)

    pub tried_same : tried p room w ≡ tried q room w
    tried_same = by_number (trial_number p (length w) room) refl

    done-number : (n : ℕ) → n ≡ trial_number p (length w) room → (tried p room w).answer.number ≡ 0 → n ≡ 0
    unfolding plain_answer
    done-number zero e z = refl
    done-number (suc n) e z = let h : suc n ≡ 0 → ⊥ = λ y. omega (arith, y) in sym (ap (λ (l : Left). l.answer.number) (tried-refused p room w (suc n) e h)) ∙ z

    -- a call that is done has the same plan
    pub same-plan : (tried p room w).answer.number ≡ 0 → p ≡ q
    same-plan z =
        ap (λ (calls : List Call). record { size = s; threshold = threshold; cutoffs = cutoffs; count = count; calls = calls })
        (same (few count (length cutoffs) (judged p (length w) room (done-number (trial_number p (length w) room) refl z)).counts).steps-64)

-- ---- slices that are well formed, and others

pub fitting : (kinds : List ℕ) (qubits rates : ℕ) → well_formed kinds qubits rates ≡ true → (qubits ≡ length kinds) × (rates ≡ 3 * length kinds)
unfolding well_formed
fitting kinds qubits rates e =
    let a = and_both _ _ e in
    let b = and_both _ _ a.0 in
    (eqb-true qubits (length kinds) b.0, eqb-true rates (3 * length kinds) b.1)

module _ (s : Size) (threshold : Float) (cutoffs : List Float) (kinds qubits : List ℕ) (rates : List Float) (room : ℕ) (w : List ℕ) where
  abbrev given : Left
  given = tried_from s threshold cutoffs kinds qubits rates room w

  abbrev fits : Bool
  fits = well_formed kinds (length qubits) (length rates)

  pub from-others : fits ≡ false → given ≡ gave (plain_answer zero_header does_not_fit) w
  unfolding tried_from
  from-others e = rw e

  -- the call on arrays that hold the first `held` of the steps: all of them, where there are no more than may be
  module _ (e : fits ≡ true) (channels : List Channel) (on : List ℕ) (held : ℕ) (all : length kinds ≤ 64 → held ≡ length kinds) where
    pub from-slices : take held channels ≡ take held (channels_in kinds rates) → take held on ≡ take held qubits → tried (plan_of s threshold cutoffs channels on (length kinds)) room w ≡ given
    unfolding tried_from
    from-slices f g =
        tried_same s threshold cutoffs (length kinds) room w channels (channels_in kinds rates) on qubits
        (λ h. steps-same (length kinds) channels (channels_in kinds rates) on qubits (rw (all h) at f) (rw (all h) at g))
        ∙ sym (rw e)

    pub plan-from-slices : take held channels ≡ take held (channels_in kinds rates) → take held on ≡ take held qubits
        → (tried (plan_of s threshold cutoffs channels on (length kinds)) room w).answer.number ≡ 0 → plan_of s threshold cutoffs channels on (length kinds) ≡ plan_of s threshold cutoffs (channels_in kinds rates) qubits (length kinds)
    plan-from-slices f g z =
        same-plan s threshold cutoffs (length kinds) room w channels (channels_in kinds rates) on qubits
        (λ h. steps-same (length kinds) channels (channels_in kinds rates) on qubits (rw (all h) at f) (rw (all h) at g)) z
