-- WHAT EVERY CALL KEEPS: a predicate of entries that no change of a weight, no branch and no gate breaks holds of each entry that a call
-- leaves, if it holds of each that it is given. Over any way to hold entries, with keys or without. Assumes nothing.
use Rattle.std.specs.Prelude.{Option, Some, None}
use Prim.Native.Nat.{ℕ}
use mathlib.Core.Path.{◌≡◌, refl, sym, subst}
use mathlib.Core.Bool.{Bool, true, false, cond, ◌||◌}
use mathlib.Core.List.{List, [], ◌++◌, map}
use lib.Dec.{eqb, ltb}
use lib.Ieee.{Float, eq}
use lib.ListN.{length}
use borrow.Author.Tests.{leb-false}
use Rattle.model.specs.Lists.{is_empty}
use Rattle.model.specs.Floats.{float, zero_bits}
use Rattle.model.specs.Entries.{Body, Entry, map_rows}
use Rattle.model.specs.Keys.{lost_bit, all_live}
use Rattle.model.specs.Changes.{with_rows, changed_body, changed_entry, changed_keyed}
use Rattle.model.specs.Store.{Holding, with_keys, Tally, begun, weight_of, body_of, reweighed, gained, stored_or_dropped, settled, merge, merge_all, merged_split, above_cutoff}
use Rattle.model.specs.Sum.{total, divided_by, normalised, kept, trimmed, truncated, finished}
use Rattle.model.specs.Channels.{Noise, arms, qubits, live, scaled, branch_of, branches_of, noise_split, noise_tally, with_cut, channelled}
use Rattle.model.specs.Reset.{drained, reset_split, reset_tally}
use Rattle.model.specs.Gates.{turned_row, turned_body, turned, gate_qubits}
use Rattle.model.specs.Numbers.{Test, first_of, some_not_below, both_the_same}
use Rattle.model.specs.Keyless.{keyless}
use Rattle.model.specs.Calls.{Call, noise, reset, gate, truncate, normalise, table, pick, sheet, view, page, Sum, changed_to, cut_down, argument_tests, act}
use Rattle.model.specs.Qubits.{QubitsBelow}
use Rattle.model.specs.declared.BranchMutation.{BranchMutation}
use Rattle.model.specs.declared.BranchMutation.TheVariants.{Loss as loss}
use Rattle.model.specs.declared.Gate.{Gate}
use Rattle.model.specs.declared.Salts.{Salts}
use Rattle.model.specs.declared.Size.{Size}
use Rattle.model.proofs.Each.{Each, nil, cons, each_map, each_append, each-joined, each-retain, each-altered, each-drained}
use Rattle.model.proofs.Arms.{ArmBelow, arms-below}
use Rattle.model.proofs.Yields.{Yields, given, not-given, yields-cond, yields-then, yields-map, yields-unless, passed}

-- number 3 does not apply to a gate
abbrev pub GateFits : ℕ → Gate → Type 0
GateFits n g = (some_not_below n (gate_qubits g) || both_the_same g) ≡ false

either : {X : Type 0} (Q : X → Type 0) (t : Bool) {x y : X} → Q x → Q y → Q (cond t x y)
either Q true p q = p
either Q false p q = q

-- ---- what is to be kept

-- a predicate of what a list holds
pub record Kept {X : Type 0} (H : Holding X) (n : ℕ) (Q : X → Type 0) : Type 0 where
  pub weights : (w : ℕ) (x : X) → Q x → Q (reweighed H.weighed w x)
  pub changes : (c : BranchMutation) (x : X) → QubitsBelow n c → Q x → Q (H.changed c x)
  pub gates : (g : Gate) (x : X) → GateFits n g → Q x → Q (turned H.weighed n g x)

-- a predicate of bodies; of a gate, where it turns their rows
pub record KeptBody (n : ℕ) (P : Body → Type 0) : Type 0 where
  pub changes : (c : BranchMutation) (b : Body) → QubitsBelow n c → P b → P (changed_body n c b)
  pub gates : (g : Gate) (b : Body) → GateFits n g → P b → P (with_rows b (map_rows n (turned_row g) b.rows))

-- the entry that is put in is there, and a branch has the changed entry
pub record Holds {X : Type 0} (H : Holding X) (n : ℕ) : Type 0 where
  pub put : (e : Entry) (x : X) → H.weighed.entry (H.weighed.with_entry e x) ≡ e
  pub branch : (c : BranchMutation) (x : X) → H.weighed.entry (H.changed c x) ≡ changed_entry n c (H.weighed.entry x)

pub keyed-holds : (salts : Salts) (s : Size) (threshold : Float) → Holds (with_keys salts s threshold) s.n
unfolding changed_keyed
keyed-holds salts s threshold = record { put = λ e x. refl; branch = λ c x. refl }

pub keyless-holds : (s : Size) (threshold : Float) → Holds (keyless s threshold) s.n
keyless-holds s threshold = record { put = λ e x. refl; branch = λ c x. refl }

pub body_kept : {X : Type 0} (H : Holding X) (n : ℕ) (P : Body → Type 0) → Holds H n → KeptBody n P → Kept H n (λ x. P (body_of H.weighed x))
unfolding reweighed turned turned_body changed_entry
body_kept H n P h k =
    record {
      weights = λ w x p. subst (λ (e : Entry). P e.body) (sym (h.put _ x)) p;
      changes = λ c x b p. subst (λ (e : Entry). P e.body) (sym (h.branch c x)) (k.changes c (body_of H.weighed x) b p);
      gates = λ g x f p.
          let b = body_of H.weighed x in
          subst (λ (e : Entry). P e.body) (sym (h.put _ x)) (either P (all_live b.loss (gate_qubits g)) (k.gates g b f p) p);
    }

-- ---- the calls

module _ {X : Type 0} (H : Holding X) (n : ℕ) (Q : X → Type 0) (k : Kept H n Q) where
  -- normalising, truncating, and how a channel ends

  normalised-keeps : (l : List X) → Each Q l → Yields (Each Q) (normalised H.weighed l)
  unfolding normalised divided_by
  normalised-keeps l a =
      let t = total H.weighed l in
      yields-cond (Each Q) (is_empty l) (given a)
      (yields-cond (Each Q) (eq t (float zero_bits)) not-given (given (each_map Q Q (divided_by H.weighed t) (λ x p. k.weights _ x p) a)))

  trimmed-keeps : (cutoff : Float) (l : List X) → Each Q l → Yields (Each Q) (trimmed H.weighed cutoff l)
  unfolding trimmed kept
  trimmed-keeps cutoff l a =
      yields-cond (Each Q) (eqb (length (kept H.weighed cutoff l)) (length l)) (given a)
      (normalised-keeps (kept H.weighed cutoff l) (each-retain Q (λ x. above_cutoff cutoff (weight_of H.weighed x)) a))

  truncated-keeps : (cutoff : Float) (l : List X) → Each Q l → Yields (λ c. Each Q c.entries) (truncated H.weighed cutoff l)
  unfolding truncated
  truncated-keeps cutoff l a = yields-map (Each Q) (λ c. Each Q c.entries) _ (λ m p. p) (trimmed-keeps cutoff l a)

  finished-keeps : (capacity : ℕ) (cutoff : Float) (dropped : ℕ) (l : List X) → Each Q l → Yields (λ c. Each Q c.entries) (finished H.weighed capacity cutoff dropped l)
  unfolding finished
  finished-keeps capacity cutoff dropped l a =
      yields-cond (λ c. Each Q c.entries) (ltb capacity (length l)) not-given
      (yields-then (Each Q) (λ c. Each Q c.entries) (truncated H.weighed cutoff) (truncated-keeps cutoff)
      (yields-cond (Each Q) (ltb 0 dropped) (normalised-keeps l a) (given a)))

  -- merging

  module _ (admit : ℕ → Bool) where
    settled-keeps : (b : X) (t : Tally X) (i : Option ℕ) → Q b → Each Q t.entries → Each Q (settled H.weighed admit b t i).entries
    unfolding settled stored_or_dropped gained
    settled-keeps b t (Some i) p a = each-altered Q (gained H.weighed b) (λ x q. k.weights _ x q) i a
    settled-keeps b t None p a = go (admit (weight_of H.weighed b))
      where
        go : (x : Bool) → Each Q (stored_or_dropped H.weighed b t x).entries
        go true = each_append Q a (cons p nil)
        go false = a

    merges-keep : (t : Tally X) {bs : List X} → Each Q bs → Each Q t.entries → Each Q (merge_all H admit bs t).entries
    unfolding merge_all merge
    merges-keep t nil a = a
    merges-keep t (cons {x = b} p q) a = merges-keep (merge H admit b t) q (settled-keeps b t (H.find b t.entries) p a)

  -- channels

  scaled-keeps : (c : Noise) (x : X) → Q x → Q (scaled H.weighed c x)
  unfolding scaled
  scaled-keeps c x p = either Q (live c (body_of H.weighed x)) (k.weights _ x p) p

  branches-keep : (c : Noise) → Each (ArmBelow n) (arms c) → (x : X) → Q x → Each Q (branches_of H c x)
  unfolding branches_of branch_of
  branches-keep c b x p = go (live c (body_of H.weighed x))
    where
      go : (t : Bool) → Each Q (cond t (map (branch_of H x) (arms c)) [])
      go true = each_map (ArmBelow n) Q (branch_of H x) (λ a q. k.weights _ _ (k.changes a.change x q p)) b
      go false = nil

  channelled-keeps : (capacity : ℕ) (cutoff : Float) (c : Noise) → Each (ArmBelow n) (arms c) → (l : List X) → Each Q l
      → Yields (λ t. Each Q t.entries) (channelled H capacity cutoff c l)
  unfolding channelled noise_tally merged_split noise_split
  channelled-keeps capacity cutoff c b l a =
      let t = noise_tally H cutoff c l in
      let stay : Each Q (map (scaled H.weighed c) l) = each_map Q Q (scaled H.weighed c) (scaled-keeps c) a in
      let parts : Each (Each Q) (map (branches_of H c) l) = each_map Q (Each Q) (branches_of H c) (branches-keep c b) a in
      yields-map (λ c. Each Q c.entries) (λ t. Each Q t.entries) (with_cut H t) (λ m h. h)
      (finished-keeps capacity cutoff t.dropped t.entries
      (merges-keep (above_cutoff cutoff) (begun (map (scaled H.weighed c) l)) (each-joined Q parts) stay))

  -- resets

  reset-keeps : (cutoff : Float) (q : ℕ) → QubitsBelow n (loss q) → (l : List X) → Each Q l → Each Q (reset_tally H cutoff q l).entries
  unfolding reset_tally merged_split reset_split
  reset-keeps cutoff q b l a =
      let p : X → Bool = λ x. eqb (lost_bit (body_of H.weighed x) q) 1 in
      let d = drained p (length l) l in
      let e = each-drained Q p (length l) a in
      let live-again : Each Q (map (H.changed (loss q)) d.branches) = each_map Q Q (H.changed (loss q)) (λ x r. k.changes (loss q) x b r) e.branches in
      merges-keep (above_cutoff cutoff) (begun d.stay) live-again e.stay

-- ANY CALL that numbers 3 and 4 let through
module _ {X : Type 0} (K : Size → Float → Holding X) (m : Sum X) (Q : X → Type 0) (k : Kept (K m.size m.threshold) m.size.n Q) (a : Each Q m.entries) where
  abbrev H : Holding X
  H = K m.size m.threshold

  pub act-keeps : (c : Call) (count : ℕ) (ts : List Test) → first_of (argument_tests c m.size count ++ ts) ≡ 0 → Yields (λ o. Each Q o.tally.entries) (act K c m)
  unfolding act argument_tests
  act-keeps (noise c) count ts e =
      yields-map (λ (t : Tally X). Each Q t.entries) _ changed_to (λ t p. p)
      (channelled-keeps H m.size.n Q k m.size.capacity m.cutoff c (arms-below m.size.n c (passed (some_not_below m.size.n (qubits c)) 2 _ e).0) m.entries a)
  act-keeps (reset q) count ts e = given (reset-keeps H m.size.n Q k m.cutoff q (leb-false m.size.n q (passed _ 2 _ e).0) m.entries a)
  act-keeps (gate g) count ts e =
      given (each_map Q Q (turned H.weighed m.size.n g) (λ x p. k.gates g x (passed (some_not_below m.size.n (gate_qubits g) || both_the_same g) 2 _ e).0 p) a)
  act-keeps truncate count ts e = yields-map (λ c. Each Q c.entries) _ (λ c. changed_to (cut_down c)) (λ c p. p) (truncated-keeps H m.size.n Q k m.cutoff m.entries a)
  act-keeps normalise count ts e = yields-map (Each Q) _ (λ l. changed_to (begun l)) (λ l p. p) (normalised-keeps H m.size.n Q k m.entries a)
  act-keeps (table room) count ts e = yields-unless _ _ (λ _. given a)
  act-keeps (pick draw) count ts e = yields-unless _ _ (λ _. given a)
  act-keeps (sheet room) count ts e = yields-unless _ _ (λ _. given a)
  act-keeps (view place) count ts e = given a
  act-keeps (page room) count ts e = yields-unless _ _ (λ _. given a)
