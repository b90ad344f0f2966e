-- Laws of cutoff trials: their calls one by one, as the code makes them; and what a trial shows and leaves is what the list kept without keys has.
-- Assumes nothing.
use Prim.Native.Nat.{ℕ, zero, suc, ◌+◌, ◌*◌, ◌-◌, ◌<◌, ◌≤◌}
use native.Mathlib.Numerals.{add-one}
use native.Mathlib.Omega.{arith}
use mathlib.Core.Path.{◌≡◌, refl, sym, ap, ap₂, subst, ◌∙◌}
use mathlib.Core.Bool.{Bool, true, false, cond, ◌&&◌}
use mathlib.Core.List.{List, [], ◌∷◌, ◌++◌, map}
use lib.Dec.{eqb, ltb}
use lib.ListN.{length, drop, get_or, length-drop}
use lib.Seq.{drop-cons}
use lib.Ieee.{Float}
use borrow.Author.Tests.{eq-eqb, ne_eqb, not-false, leb-true}
use Rattle.model.specs.Floats.{float, zero_bits, finite_from_zero}
use Rattle.model.specs.Lists.{every, joined}
use Rattle.model.specs.Numbers.{first_of, size_sound, bounds_sound, one_to}
use Rattle.model.specs.Channels.{one}
use Rattle.model.specs.Entries.{Entry, Keyed}
use Rattle.model.specs.Sum.{Result, done, refused, map_result}
use Rattle.model.specs.Calls.{Call, noise, Sum, Outcome, Lent, Left, plain_answer, accepted, left, worked, unless, performed, engine, shape, zeros_past, step, Start, fresh_tests, fresh_sheet, begins, start}
use Rattle.model.specs.Keyless.{keyless_step, keyless_start, sheet_sum}
use Rattle.model.specs.Demand3.{next, after_calls, keyless_next, keyless_after, keyless_shown, Shown, shown_by, all_shown, all_keyless_shown, all_compared, all_comparisons, flag_by, flag_after, Agree, Begins, Demand3}
use Rattle.model.specs.Trials.{max_steps, max_cutoffs, step_calls, Plan, fresh_of, trial_begun, accepted_of, place_of, repeated, places_of, trial_tests, trial_number, keyless_places, keyless_accepted, TrialAgrees, keyless_trial, keyless_trials, last_cutoff, trial_places, tried_all, tried_by, tried, TrialsAgree}
use Rattle.model.specs.declared.Channel.{Channel}
use Rattle.model.proofs.Lists.{and_both, every-at}
use Rattle.model.proofs.Steps.{unless-none}
use Rattle.model.proofs.Yields.{passed}
use Rattle.model.proofs.Demand3.{demand-3}

-- ---- a refused call leaves all as it was

left-stays : (c : Call) (x : Lent) (m : Sum Keyed) (r : Result (Outcome Keyed)) → ((left c x m r).answer.number ≡ 0 → ⊥) → next (left c x m r) ≡ x
unfolding left plain_answer accepted
left-stays c x m (refused n) h = refl
left-stays c x m (done o) h = absurd (h refl)

pub refused-stays : (c : Call) (x : Lent) → ((step c x).answer.number ≡ 0 → ⊥) → next (step c x) ≡ x
unfolding step
refused-stays c x h = left-stays c x (worked c x) (unless (shape x) (performed engine c (zeros_past x) (worked c x))) h

-- ---- the calls of the steps

-- from step i on: its call, and those after it
pub steps_next : (count i : ℕ) (cs : List Channel) (qs : List ℕ) (d : Channel) (e : ℕ) → i < count → i < length cs → i < length qs
    → step_calls (count - i) (drop i cs) (drop i qs) ≡ noise (one (get_or cs i d) (get_or qs i e)) ∷ step_calls (count - (i + 1)) (drop (i + 1) cs) (drop (i + 1) qs)
unfolding step_calls
steps_next count i cs qs d e h f g =
    ap (λ (k : ℕ). step_calls k (drop i cs) (drop i qs)) (less count i h)
    ∙ ap₂ (step_calls (suc (count - (i + 1)))) (drop-cons cs i d f) (drop-cons qs i e g)
    ∙ ap (λ (k : ℕ). noise (one (get_or cs i d) (get_or qs i e)) ∷ step_calls (count - (i + 1)) (drop k cs) (drop k qs)) (sym (add-one i))
  where
    less : (count i : ℕ) → i < count → count - i ≡ suc (count - (i + 1))
    less count i h = omega arith

-- there are as many as are said
pub steps-length : (count : ℕ) (cs : List Channel) (qs : List ℕ) → count ≤ length cs → count ≤ length qs → length (step_calls count cs qs) ≡ count
unfolding step_calls
steps-length zero cs qs f g = refl
steps-length (suc n) [] qs f g = absurd (omega arith)
steps-length (suc n) (c ∷ cs) [] f g = absurd (omega arith)
steps-length (suc n) (c ∷ cs) (q ∷ qs) f g = ap suc (steps-length n cs qs (omega (arith, f)) (omega (arith, g)))

-- from step i on
pub steps-left : (count i : ℕ) (cs : List Channel) (qs : List ℕ) → count ≤ length cs → count ≤ length qs → length (step_calls (count - i) (drop i cs) (drop i qs)) ≡ count - i
steps-left count i cs qs f g =
    steps-length (count - i) (drop i cs) (drop i qs) (omega (arith, length-drop i cs, f)) (omega (arith, length-drop i qs, g))

-- ---- one call of a trial, and the others

module _ (c : Call) (cs : List Call) (x : Lent) where
  abbrev number : ℕ
  number = (step c x).answer.number

  -- accepted: the trial goes on
  pub trial-goes-on : number ≡ 0 → after_calls (accepted_of (c ∷ cs) x) x ≡ after_calls (accepted_of cs (next (step c x))) (next (step c x))
  unfolding accepted_of after_calls
  trial-goes-on z = ap (λ (b : Bool). after_calls (cond b (c ∷ accepted_of cs (next (step c x))) []) x) (eq-eqb number 0 z)

  pub places-go-on : number ≡ 0 → places_of (c ∷ cs) x ≡ place_of (step c x) ++ places_of cs (next (step c x))
  unfolding places_of
  places-go-on z = ap (λ (b : Bool). place_of (step c x) ++ cond b (places_of cs (next (step c x))) (repeated (length cs) (place_of (step c x)))) (eq-eqb number 0 z)

  -- refused: it ends, and all places that are left show that
  pub trial-ends : (number ≡ 0 → ⊥) → after_calls (accepted_of (c ∷ cs) x) x ≡ next (step c x)
  unfolding accepted_of after_calls
  trial-ends h = ap (λ (b : Bool). after_calls (cond b (c ∷ accepted_of cs (next (step c x))) []) x) (ne_eqb number 0 h) ∙ sym (refused-stays c x h)

  pub places-end : (number ≡ 0 → ⊥) → places_of (c ∷ cs) x ≡ repeated (suc (length cs)) (place_of (step c x))
  unfolding places_of repeated
  places-end h = ap (λ (b : Bool). place_of (step c x) ++ cond b (places_of cs (next (step c x))) (repeated (length cs) (place_of (step c x)))) (ne_eqb number 0 h)

-- ---- beside the list kept without keys

-- whatever calls follow, they agree
abbrev Follows : Lent → Sum Entry → Type 0
Follows x m = (cs : List Call) → Agree cs x m

first : {X : Type 0} → X → List X → X
first d [] = d
first d (x ∷ xs) = x

others : {X : Type 0} → List X → List X
others [] = []
others (x ∷ xs) = xs

module _ (x : Lent) (m : Sum Entry) (f : Follows x m) (c : Call) where
  abbrev r : Result (Outcome Entry)
  r = keyless_step c m

  abbrev y : Lent
  y = next (step c x)

  same_number : (step c x).answer.number ≡ (keyless_shown r).number
  unfolding all_shown all_keyless_shown first
  same_number = ap (λ (l : List Shown). (first (shown_by c (step c x)) l).number) (f (c ∷ [])).shown

  same_count : y.header.count ≡ length (keyless_next m r).entries
  unfolding after_calls keyless_after
  same_count = (f (c ∷ [])).count

  same_flag : y.header.dirty ≡ flag_by c x.header.dirty r
  unfolding after_calls flag_after
  same_flag = (f (c ∷ [])).flag

  follows_next : Follows y (keyless_next m r)
  unfolding after_calls keyless_after flag_after all_shown all_keyless_shown all_compared all_comparisons others
  follows_next cs =
      let a = f (c ∷ cs) in
      record {
        size = a.size;
        threshold = a.threshold;
        cutoff = a.cutoff;
        count = a.count;
        entries = a.entries;
        flag = a.flag ∙ ap (flag_after cs (keyless_next m r)) (sym same_flag);
        keys = a.keys;
        shown = ap others a.shown;
        compared = ap others a.compared;
      }

-- the places of calls: one place, by a number and a count, and the rest
placed : (n k left : ℕ) → List ℕ → List ℕ
placed n k left rest = (n ∷ k ∷ []) ++ cond (eqb n 0) rest (repeated left (n ∷ k ∷ []))

same-places : (cs : List Call) (x : Lent) (m : Sum Entry) → Follows x m → places_of cs x ≡ keyless_places cs m
unfolding places_of keyless_places placed
same-places [] x m f = refl
same-places (c ∷ cs) x m f =
    let r = keyless_step c m in
    let e = same-places cs (next (step c x)) (keyless_next m r) (follows_next x m f c) in
    ap (λ (n : ℕ). placed n (step c x).answer.header.count (length cs) (places_of cs (next (step c x)))) (same_number x m f c)
    ∙ ap₂ (λ (k : ℕ) (l : List ℕ). placed (keyless_shown r).number k (length cs) l) (same_count x m f c) e

same-accepted : (cs : List Call) (x : Lent) (m : Sum Entry) → Follows x m → accepted_of cs x ≡ keyless_accepted cs m
unfolding accepted_of keyless_accepted
same-accepted [] x m f = refl
same-accepted (c ∷ cs) x m f =
    let r = keyless_step c m in
    ap₂ (λ (n : ℕ) (l : List Call). cond (eqb n 0) (c ∷ l) []) (same_number x m f c) (same-accepted cs (next (step c x)) (keyless_next m r) (follows_next x m f c))

-- ---- what is judged before the first trial

pub record Judged (p : Plan) (len room : ℕ) : Type 0 where
  pub size : size_sound p.size len ≡ true
  pub counts : (one_to max_steps p.count && one_to max_cutoffs (length p.cutoffs)) ≡ true
  pub threshold : finite_from_zero p.threshold ≡ true
  pub cutoffs : every finite_from_zero p.cutoffs ≡ true
  pub fits : ltb room (2 * length p.cutoffs * p.count) ≡ false

pub judged : (p : Plan) (len room : ℕ) → trial_number p len room ≡ 0 → Judged p len room
unfolding trial_tests
judged p len room z =
    let a = passed _ 0 _ z in
    let b = passed _ 10 _ a.1 in
    let c = passed _ 1 _ b.1 in
    let d = passed _ 7 _ c.1 in
    let e = and_both _ _ (not-false _ c.0) in
    record { size = not-false _ a.0; counts = not-false _ b.0; threshold = e.0; cutoffs = e.1; fits = d.0 }

module _ (p : Plan) (len room : ℕ) (j : Judged p len room) (i : ℕ) (h : i < length p.cutoffs) where
  -- its fresh call
  abbrev cutoff : Float
  cutoff = get_or p.cutoffs i (float zero_bits)

  pub fresh-passes : first_of (fresh_tests p.size p.threshold cutoff len) ≡ 0
  unfolding fresh_tests first_of bounds_sound
  fresh-passes = rw (j.size, j.threshold, every-at finite_from_zero p.cutoffs i (float zero_bits) j.cutoffs h)

  pub fresh-begins : begins (fresh_of p cutoff) len ≡ done (fresh_sheet p.size p.threshold cutoff)
  unfolding begins
  fresh-begins = unless-none (fresh_tests p.size p.threshold cutoff len) _ fresh-passes

demand : (b : Start) (w : List ℕ) → Begins b w (keyless_start b (length w))
unfolding Demand3
demand = demand-3

follows : (b : Start) (w : List ℕ) (m : Sum Entry) → Begins b w (done m) → Follows (next (start b w)) m
unfolding Begins
follows b w m f = f.2

-- a trial of a call that is not refused
module _ (p : Plan) (room : ℕ) (w : List ℕ) (z : trial_number p (length w) room ≡ 0) where
  abbrev ok : Judged p (length w) room
  ok = judged p (length w) room z

  module _ (i : ℕ) (h : i < length p.cutoffs) where
    abbrev at : Float
    at = get_or p.cutoffs i (float zero_bits)

    abbrev begun : Sum Entry
    begun = sheet_sum (fresh_sheet p.size p.threshold at)

    list-begins : keyless_start (fresh_of p at) (length w) ≡ done begun
    unfolding keyless_start map_result
    list-begins = ap (map_result sheet_sum) (fresh-begins p (length w) room ok i h)

    follows-it : Follows (trial_begun p w at) begun
    follows-it = follows (fresh_of p at) w begun (subst (Begins (fresh_of p at) w) list-begins (demand (fresh_of p at) w))

    pub trial-agrees : TrialAgrees p w at
    trial-agrees =
        record {
          list = begun;
          begins = list-begins;
          places = same-places p.calls (trial_begun p w at) begun follows-it;
          accepted = same-accepted p.calls (trial_begun p w at) begun follows-it;
          goes_on = λ cs. follows-it (keyless_accepted p.calls begun ++ cs);
        }

    same-trial : places_of p.calls (trial_begun p w at) ≡ keyless_trial p.calls (keyless_start (fresh_of p at) (length w))
    unfolding keyless_trial trial-agrees
    same-trial = trial-agrees.places ∙ ap (keyless_trial p.calls) (sym list-begins)

  some-cutoff : length p.cutoffs - 1 < length p.cutoffs
  some-cutoff =
      let a = and_both (one_to max_steps p.count) (one_to max_cutoffs (length p.cutoffs)) ok.counts in
      let b = leb-true 1 (length p.cutoffs) (and_both _ _ a.1).0 in omega (arith, b)

-- two functions that give the same of each element of a list
map_same : {X Y : Type 0} (f g : X → Y) (l : List X) (d : X) → ((i : ℕ) → i < length l → f (get_or l i d) ≡ g (get_or l i d)) → map f l ≡ map g l
map_same f g [] d e = refl
map_same f g (x ∷ l) d e = ap₂ ◌∷◌ (e 0 (omega arith)) (map_same f g l d (λ i h. e (suc i) (omega (arith, h))))

-- EVERY CALL that is not refused
pub trials-agree : TrialsAgree
unfolding TrialsAgree tried_by tried_all trial_places keyless_trials
trials-agree p room w z =
    let t : tried p room w ≡ tried_all p w = ap (λ (n : ℕ). tried_by n p w) z in
    let l = trial-agrees p room w z (length p.cutoffs - 1) (some-cutoff p room w z) in
    record {
      shows =
          ap (λ (l : Left). l.output) t
          ∙ ap joined
          (map_same (λ c. places_of p.calls (trial_begun p w c)) (λ c. keyless_trial p.calls (keyless_start (fresh_of p c) (length w))) p.cutoffs (float zero_bits) (same-trial p room w z));
      each = trial-agrees p room w z;
      last = l;
      left = ap next t ∙ ap (λ (cs : List Call). after_calls cs (trial_begun p w (last_cutoff p))) l.accepted;
    }
