-- Document 02, [2]: trying cutoffs before a campaign. Made of `start (fresh ..)` and of `step (noise (one ..))`, which stand for calls made one
-- by one, and of nothing else. Assumes nothing.
use Rattle.std.specs.Prelude.{ℕ, zero, suc, ◌*◌, ◌-◌, ◌<◌, ◌≡◌, cond, not, ◌&&◌, List, [], ◌∷◌, ◌++◌, map, eqb, ltb, Float, length, get_or}
use Rattle.model.specs.Floats.{float, zero_bits, finite_from_zero}
use Rattle.model.specs.Lists.{every, joined}
use Rattle.model.specs.Numbers.{Test, gives, first_of, one_to, size_sound}
use Rattle.model.specs.Channels.{one}
use Rattle.model.specs.Entries.{Entry}
use Rattle.model.specs.Store.{no_loss}
use Rattle.model.specs.Sum.{Result, done, refused}
use Rattle.model.specs.Calls.{Call, noise, Sum, Outcome, Lent, Left, gave, answer_of, no_counts, plain_answer, step, Start, fresh, start, zero_header}
use Rattle.model.specs.Keyless.{keyless_step, keyless_start}
use Rattle.model.specs.Demand3.{next, after_calls, keyless_next, keyless_shown, Agree}
use Rattle.model.specs.declared.Size.{Size}
use Rattle.model.specs.declared.Channel.{Channel}

-- ---- what is named

abbrev pub max_cutoffs : ℕ
max_cutoffs = 8

abbrev pub max_steps : ℕ
max_steps = 64

-- 'A step is a qubit with a Pauli, loss or depolarising channel': the first `count` of them
unfoldable pub step_calls : (count : ℕ) → List Channel → List ℕ → List Call
step_calls zero cs qs = []
step_calls (suc n) [] qs = []
step_calls (suc n) (c ∷ cs) [] = []
step_calls (suc n) (c ∷ cs) (q ∷ qs) = noise (one c q) ∷ step_calls n cs qs

pub record Plan : Type 0 where
  pub size : Size
  pub threshold : Float
  pub cutoffs : List Float
  -- how many steps there are, and the call of each
  pub count : ℕ
  pub calls : List Call

-- from the arrays that a call takes
abbrev pub plan_of : Size → Float → List Float → List Channel → List ℕ → (count : ℕ) → Plan
plan_of s threshold cutoffs channels qubits count =
    record { size = s; threshold = threshold; cutoffs = cutoffs; count = count; calls = step_calls count channels qubits }

-- ---- a trial

-- 'Each trial starts from a fresh sum', in a store of words w. An accepted fresh call writes every word, so here and below w are those before the first trial, and what
-- the trial before it left in the store does not matter (crates/trials proves it: the code has one store for all trials)
abbrev pub fresh_of : Plan → Float → Start
fresh_of p cutoff = fresh p.size p.threshold cutoff

abbrev pub trial_begun : Plan → List ℕ → Float → Lent
trial_begun p w cutoff = next (start (fresh_of p cutoff) w)

-- '.. and does what the same calls made one by one would do', and 'ends at its first refusal': the calls before it
unfoldable pub accepted_of : List Call → Lent → List Call
accepted_of [] x = []
accepted_of (c ∷ cs) x = cond (eqb (step c x).answer.number 0) (c ∷ accepted_of cs (next (step c x))) []

-- the sum that it leaves
abbrev pub trial_left : Plan → List ℕ → Float → Lent
trial_left p w cutoff = let x = trial_begun p w cutoff in after_calls (accepted_of p.calls x) x

-- 'a place for each step .. two words, the call's number and the entries after it'
abbrev pub place_of : Left → List ℕ
place_of l = l.answer.number ∷ l.answer.header.count ∷ []

unfoldable pub repeated : ℕ → List ℕ → List ℕ
repeated zero place = []
repeated (suc n) place = place ++ repeated n place

-- after a refusal 'its remaining places show that number and the entries it left'
unfoldable pub places_of : List Call → Lent → List ℕ
places_of [] x = []
places_of (c ∷ cs) x =
    let l = step c x in
    place_of l ++ cond (eqb l.answer.number 0) (places_of cs (next l)) (repeated (length cs) (place_of l))

-- ---- the call

-- judged before the first trial, in a store of `len` words and an output of `room`: '11 is given, after 1 and before 2', and then 8
unfoldable pub trial_tests : Size → Float → List Float → (count len room : ℕ) → List Test
trial_tests s threshold cutoffs count len room =
    gives 1 (not (size_sound s len))
    ∷ gives 11 (not (one_to max_steps count && one_to max_cutoffs (length cutoffs)))
    ∷ gives 2 (not (finite_from_zero threshold && every finite_from_zero cutoffs))
    ∷ gives 8 (ltb room (2 * length cutoffs * count))
    ∷ []

abbrev pub trial_number : Plan → (len room : ℕ) → ℕ
trial_number p len room = first_of (trial_tests p.size p.threshold p.cutoffs p.count len room)

-- 'cutoff after cutoff'
unfoldable pub trial_places : Plan → List ℕ → List ℕ
trial_places p w = joined (map (λ c. places_of p.calls (trial_begun p w c)) p.cutoffs)

abbrev pub last_cutoff : Plan → Float
last_cutoff p = get_or p.cutoffs (length p.cutoffs - 1) (float zero_bits)

-- 'The lent store and the header are left with the last trial's sum'; 'refusals inside trials leave the whole call's number 0'
unfoldable pub tried_all : Plan → List ℕ → Left
tried_all p w =
    let x = trial_left p w (last_cutoff p) in
    record { answer = answer_of 0 x.header no_counts no_loss 0 (2 * length p.cutoffs * p.count); words = x.words; output = trial_places p w }

-- ONE CALL: 'if the whole call is refused, its header is zeros'
unfoldable pub tried_by : ℕ → Plan → List ℕ → Left
tried_by n p w = cond (eqb n 0) (tried_all p w) (gave (plain_answer zero_header n) w)

abbrev pub tried : Plan → (room : ℕ) → List ℕ → Left
tried p room w = tried_by (trial_number p (length w) room) p w

-- ---- beside the list kept without keys

abbrev pub keyless_place : Sum Entry → Result (Outcome Entry) → List ℕ
keyless_place m r = (keyless_shown r).number ∷ length (keyless_next m r).entries ∷ []

unfoldable pub keyless_places : List Call → Sum Entry → List ℕ
keyless_places [] m = []
keyless_places (c ∷ cs) m =
    let r = keyless_step c m in
    keyless_place m r ++ cond (eqb (keyless_shown r).number 0) (keyless_places cs (keyless_next m r)) (repeated (length cs) (keyless_place m r))

unfoldable pub keyless_accepted : List Call → Sum Entry → List Call
keyless_accepted [] m = []
keyless_accepted (c ∷ cs) m =
    let r = keyless_step c m in
    cond (eqb (keyless_shown r).number 0) (c ∷ keyless_accepted cs (keyless_next m r)) []

-- 'the accepted calls of each trial match the keyless list', which began as the trial did; and whatever calls follow on the sum that it leaves, all calls
-- since its fresh call match that list, the accepted ones of the trial standing first
pub record TrialAgrees (p : Plan) (w : List ℕ) (cutoff : Float) : Type 0 where
  pub list : Sum Entry
  pub begins : keyless_start (fresh_of p cutoff) (length w) ≡ done list
  pub places : places_of p.calls (trial_begun p w cutoff) ≡ keyless_places p.calls list
  pub accepted : accepted_of p.calls (trial_begun p w cutoff) ≡ keyless_accepted p.calls list
  pub goes_on : (cs : List Call) → Agree (keyless_accepted p.calls list ++ cs) (trial_begun p w cutoff) list

-- what the list shows of a trial
unfoldable pub keyless_trial : List Call → Result (Sum Entry) → List ℕ
keyless_trial cs (refused n) = []
keyless_trial cs (done m) = keyless_places cs m

unfoldable pub keyless_trials : Plan → (len : ℕ) → List ℕ
keyless_trials p len = joined (map (λ c. keyless_trial p.calls (keyless_start (fresh_of p c) len)) p.cutoffs)

-- THE PROMISE of a call that is done, in a store that held the words w: what it shows is what the list shows; each trial agrees; and the sum x that is left is the
-- last trial's, with which calls go on
pub record TrialsPromise (p : Plan) (w : List ℕ) (x : Lent) (shown : List ℕ) : Type 0 where
  pub shows : shown ≡ keyless_trials p (length w)
  pub each : (i : ℕ) → i < length p.cutoffs → TrialAgrees p w (get_or p.cutoffs i (float zero_bits))
  pub last : TrialAgrees p w (last_cutoff p)
  pub left : x ≡ after_calls (keyless_accepted p.calls last.list) (trial_begun p w (last_cutoff p))

unfoldable pub TrialsAgree : Type 0
TrialsAgree = (p : Plan) (room : ℕ) (w : List ℕ) → trial_number p (length w) room ≡ 0 → TrialsPromise p w (next (tried p room w)) (tried p room w).output
