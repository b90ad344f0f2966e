-- An accepted call leaves no more entries than the capacity. Over any way to hold entries, with keys or without. Assumes nothing.
use Rattle.std.specs.Prelude.{Option, Some, None}
use Prim.Native.Nat.{ℕ, zero, suc, ◌+◌, ◌-◌, ◌≤◌}
use native.Mathlib.Nat.{le_refl}
use native.Mathlib.Omega.{arith}
use mathlib.Core.Path.{◌≡◌, refl, sym, ap, ◌∙◌}
use mathlib.Core.Bool.{Bool, true, false, cond}
use mathlib.Core.List.{List, [], ◌∷◌, map}
use lib.Dec.{eqb, ltb}
use lib.Ieee.{Float, eq}
use lib.ListN.{length, take, drop, get_or, set, length-map, length-append, length-drop, length-set}
use lib.Seq.{length-take-le}
use borrow.Author.Tests.{ltb-false}
use Rattle.model.specs.Lists.{is_empty, retain, swap_remove}
use Rattle.model.specs.Floats.{float, zero_bits}
use Rattle.model.specs.Keys.{lost_bit}
use Rattle.model.specs.Store.{Holding, Tally, begun, weight_of, body_of, gained, stored_or_dropped, settled, merge, merge_all, merged_split, above_cutoff}
use Rattle.model.specs.Sum.{done, refused, and_then, total, divided_by, normalised, kept, trimmed, Cut, truncated, finished}
use Rattle.model.specs.Channels.{Noise, noise_tally, with_cut, channelled}
use Rattle.model.specs.Reset.{leaving_at, left_at, drained, reset_split, reset_tally}
use Rattle.model.specs.Gates.{turned}
use Rattle.model.specs.Calls.{Call, noise, reset, gate, truncate, normalise, table, pick, sheet, view, page, Sum, changed_to, cut_down, act}
use Rattle.model.specs.declared.BranchMutation.TheVariants.{Loss as loss}
use Rattle.model.specs.declared.Size.{Size}
use Rattle.model.proofs.Merging.{length-altered}
use Rattle.model.proofs.Yields.{Yields, given, not-given, yields-cond, yields-then, yields-map, yields-unless}

retain-length : {X : Type 0} (t : X → Bool) (l : List X) → length (retain t l) ≤ length l
unfolding retain
retain-length t [] = le_refl 0
retain-length t (x ∷ l) = go (t x) (retain-length t l)
  where
    go : (b : Bool) → length (retain t l) ≤ length l → length (cond b (x ∷ retain t l) (retain t l)) ≤ suc (length l)
    go true h = omega arith
    go false h = omega arith

-- ---- what leaves a list

module _ {X : Type 0} (p : X → Bool) where
  left-length : (i : ℕ) (l : List X) → length (left_at i (leaving_at p i l) l) + length (leaving_at p i l) ≤ length l
  unfolding leaving_at left_at retain swap_remove
  left-length i l = go (drop i l) refl
    where
      go : (r : List X) → drop i l ≡ r → length (left_at i (retain p (take 1 r)) l) + length (retain p (take 1 r)) ≤ length l
      go [] e = omega arith
      go (y ∷ r) e = out (p y)
        where
          out : (t : Bool) → length (left_at i (cond t (y ∷ []) []) l) + length (cond t (y ∷ []) []) ≤ length l
          out true =
              let z = get_or l (length l - 1) y in
              let d : length l - i ≡ suc (length r) = sym (length-drop i l) ∙ ap length e in
              let n : length (take (length l - 1) (set l i z)) ≡ length l - 1 = length-take-le (length l - 1) (set l i z) (omega (arith, length-set l i z)) in
              omega (arith, n, d)
          out false = omega arith

  drained-length : (i : ℕ) (l : List X) → length (drained p i l).stay + length (drained p i l).branches ≤ length l
  unfolding drained
  drained-length zero l = omega arith
  drained-length (suc i) l =
      let out = leaving_at p i l in
      let below = drained p i (left_at i out l) in
      omega (arith, length-append out below.branches, drained-length i (left_at i out l), left-length i l)

module _ {X : Type 0} (H : Holding X) (capacity : ℕ) where
  abbrev Few : List X → Type 0
  Few l = length l ≤ capacity

  -- ---- normalising, truncating, and how a channel ends

  normalised-few : (l : List X) → Few l → Yields Few (normalised H.weighed l)
  unfolding normalised
  normalised-few l h =
      let t = total H.weighed l in
      let n = length-map l (divided_by H.weighed t) in
      yields-cond Few (is_empty l) (given h) (yields-cond Few (eq t (float zero_bits)) not-given (given (omega (arith, n, h))))

  trimmed-few : (cutoff : Float) (l : List X) → Few l → Yields Few (trimmed H.weighed cutoff l)
  unfolding trimmed kept
  trimmed-few cutoff l h =
      let p : X → Bool = λ x. above_cutoff cutoff (weight_of H.weighed x) in
      let n = retain-length p l in
      yields-cond Few (eqb (length (retain p l)) (length l)) (given h) (normalised-few (retain p l) (omega (arith, n, h)))

  abbrev FewLeft : Cut X → Type 0
  FewLeft c = Few c.entries

  truncated-few : (cutoff : Float) (l : List X) → Few l → Yields FewLeft (truncated H.weighed cutoff l)
  unfolding truncated
  truncated-few cutoff l h = yields-map Few FewLeft _ (λ m p. p) (trimmed-few cutoff l h)

  -- number 6 is given for more
  finished-few : (cutoff : Float) (dropped : ℕ) (l : List X) → Yields FewLeft (finished H.weighed capacity cutoff dropped l)
  unfolding finished
  finished-few cutoff dropped l = go (ltb capacity (length l)) refl
    where
      go : (t : Bool) → ltb capacity (length l) ≡ t
          → Yields FewLeft (cond t (refused 6) (and_then (truncated H.weighed cutoff) (cond (ltb 0 dropped) (normalised H.weighed l) (done l))))
      go true e = not-given
      go false e =
          let h : Few l = ltb-false capacity (length l) e in
          yields-then Few FewLeft (truncated H.weighed cutoff) (truncated-few cutoff) (yields-cond Few (ltb 0 dropped) (normalised-few l h) (given h))

  channelled-few : (cutoff : Float) (c : Noise) (l : List X) → Yields (λ t. Few t.entries) (channelled H capacity cutoff c l)
  unfolding channelled
  channelled-few cutoff c l =
      let t = noise_tally H cutoff c l in
      yields-map FewLeft (λ t. Few t.entries) (with_cut H t) (λ m h. h) (finished-few cutoff t.dropped t.entries)

  -- ---- merging: a branch adds one entry at most

  module _ (admit : ℕ → Bool) where
    settled-length : (b : X) (t : Tally X) (i : Option ℕ) → length (settled H.weighed admit b t i).entries ≤ suc (length t.entries)
    unfolding settled stored_or_dropped
    settled-length b t (Some i) = omega (arith, length-altered (gained H.weighed b) i t.entries)
    settled-length b t None = go (admit (weight_of H.weighed b))
      where
        go : (x : Bool) → length (stored_or_dropped H.weighed b t x).entries ≤ suc (length t.entries)
        go true = omega (arith, length-append t.entries (b ∷ []))
        go false = omega arith

    merges-length : (bs : List X) (t : Tally X) → length (merge_all H admit bs t).entries ≤ length bs + length t.entries
    unfolding merge_all merge
    merges-length [] t = omega arith
    merges-length (b ∷ bs) t = omega (arith, merges-length bs (merge H admit b t), settled-length b t (H.find b t.entries))

  reset-few : (cutoff : Float) (q : ℕ) (l : List X) → Few l → Few (reset_tally H cutoff q l).entries
  unfolding reset_tally merged_split reset_split
  reset-few cutoff q l h =
      let p : X → Bool = λ x. eqb (lost_bit (body_of H.weighed x) q) 1 in
      let d = drained p (length l) l in
      let bs = map (H.changed (loss q)) d.branches in
      omega (arith, merges-length (above_cutoff cutoff) bs (begun d.stay), length-map d.branches (H.changed (loss q)), drained-length p (length l) l, h)

-- ---- ANY CALL

module _ {X : Type 0} (K : Size → Float → Holding X) (m : Sum X) (h : length m.entries ≤ m.size.capacity) where
  abbrev H : Holding X
  H = K m.size m.threshold

  abbrev Few' : List X → Type 0
  Few' l = length l ≤ m.size.capacity

  pub act-room : (c : Call) → Yields (λ o. length o.tally.entries ≤ m.size.capacity) (act K c m)
  unfolding act
  act-room (noise c) = yields-map (λ (t : Tally X). Few' t.entries) _ changed_to (λ t p. p) (channelled-few H m.size.capacity m.cutoff c m.entries)
  act-room (reset q) = given (reset-few H m.size.capacity m.cutoff q m.entries h)
  act-room (gate g) =
      let f = turned H.weighed m.size.n g in
      let n = length-map m.entries f in
      let few : Few' (map f m.entries) = omega (arith, n, h) in
      given few
  act-room truncate = yields-map (λ c. Few' c.entries) _ (λ c. changed_to (cut_down c)) (λ c p. p) (truncated-few H m.size.capacity m.cutoff m.entries h)
  act-room normalise = yields-map Few' _ (λ l. changed_to (begun l)) (λ l p. p) (normalised-few H m.size.capacity m.entries h)
  act-room (table room) = yields-unless _ _ (λ _. given h)
  act-room (pick draw) = yields-unless _ _ (λ _. given h)
  act-room (sheet room) = yields-unless _ _ (λ _. given h)
  act-room (view place) = given h
  act-room (page room) = yields-unless _ _ (λ _. given h)
