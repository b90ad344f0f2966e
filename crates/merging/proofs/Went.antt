-- Merging branches, one after the other: what one branch leaves, and two runs of branches in a row. Assumes nothing.
use mathlib.Core.Path.{◌≡◌, refl, sym, ap, ◌∙◌}
use mathlib.Core.Bool.{Bool, true, false, true≢false}
use mathlib.Core.List.{List, [], ◌∷◌, ◌++◌, map}
use Prim.Native.Nat.{ℕ, ◌+◌, ◌≤◌, ◌<◌}
use native.Mathlib.Nat.{add-zero, le_refl, le_trans}
use native.Mathlib.Omega.{arith}
use lib.Ieee.{Float}
use lib.ListN.{length, take, length-append}
use lib.Seq.{take_all, take-take}
use Rattle.model.specs.Entries.{Keyed, listed}
use Rattle.model.specs.Keys.{usual_salts}
use Rattle.model.specs.Store.{Tally, keyed_weighed, weight_of, reweighed, merge, merge_all, tested_all, how_many, above_cutoff}
use Rattle.model.specs.Calls.{engine}
use Rattle.model.specs.declared.Size.{Size}
use Rattle.model.proofs.Entries.{length-listed}
use Rattle.model.specs.Sound.{Packed}
use Rattle.model.proofs.Merging.{merge-grows, merge_all-grows, merge_all-append, merge-front, tested-append, map-take}
use Rattle.seeking.proofs.Walk.{tested-few}
use Rattle.merging.specs.Fates.{MergedBy, count_by, tally_by}
use Rattle.merging.specs.Progress.{tally_of, unweighed, Went, after}
use Rattle.merging.specs.declared.Fate.{Fate}
use Rattle.merging.specs.declared.Fate.TheVariants.{Merged, Stored, Dropped, NoRoom}
use Rattle.merging.specs.declared.Settled.{Settled}
use Rattle.merging.specs.declared.Progress.{Progress}
use Rattle.merging.proofs.Merge.{added, merge-adds}

-- a weight that is set aside is not seen
blind : (w : ℕ) (e : Keyed) → unweighed (reweighed keyed_weighed w e) ≡ unweighed e
unfolding reweighed
blind w e = refl

pub all_there : (s : Size) (count : ℕ) (w : List ℕ) → take count (listed s count w) ≡ listed s count w
all_there s count w = take_all count (listed s count w) (omega (arith, length-listed s count w))

-- the entries listed after a branch's fate
pub count-after : (f : Fate) (p : Progress) (k w : ℕ) → (after f p k w).count ≡ count_by f p.count
unfolding after count_by
count-after Merged p k w = refl
count-after Stored p k w = refl
count-after Dropped p k w = refl
count-after NoRoom p k w = refl

module _ (s : Size) (threshold cutoff : Float) where
  -- ---- one branch

  module _ (b : Keyed) (p : Progress) (w w' : List ℕ) (r : Settled) (g : Packed s p.count w) (o : p.full ≡ false)
      (m : MergedBy s p.count threshold cutoff b w w' r) where
    abbrev before : Tally Keyed
    before = tally_of s p w

    -- what one merge makes of the tally so far
    tally-is : merge (engine s threshold) (above_cutoff cutoff) b before ≡ added (weight_of keyed_weighed b) before (tally_by r.fate b (listed s (count_by r.fate p.count) w'))
    tally-is = merge-adds (engine s threshold) (above_cutoff cutoff) b before ∙ ap (added (weight_of keyed_weighed b) before) m.tally

    pub few-tested : r.compared ≤ 256
    few-tested = omega (arith, m.tested, tested-few s threshold b 0 (listed s p.count w), length-listed s p.count w, g.room, g.sized.capacity.high)

    tested-is : r.compared ≡ how_many (tested_all usual_salts s threshold (above_cutoff cutoff) (b ∷ []) before)
    unfolding tested_all how_many
    tested-is = m.tested ∙ sym (add-zero _)

    -- it was merged, stored or dropped
    settles : (p' : Progress) → Packed s p'.count w' → p'.full ≡ false → p'.compared ≡ p.compared + r.compared
        → p'.merged + p'.stored + p'.dropped ≡ p.merged + p.stored + p.dropped + 1
        → merge (engine s threshold) (above_cutoff cutoff) b before ≡ tally_of s p' w' → Went s threshold cutoff (b ∷ []) p w p' w'
    unfolding merge_all
    settles p' g' o' c k t =
        record {
          packed = g';
          grows = omega (arith, merge-grows (engine s threshold) (above_cutoff cutoff) b before, ap (λ (u : Tally Keyed). length u.entries) t, length-listed s p.count w, length-listed s p'.count w');
          front =
              ap (λ (u : Tally Keyed). map unweighed (take p.count u.entries)) (sym t)
              ∙ merge-front (engine s threshold) (above_cutoff cutoff) unweighed blind p.count b before (omega (arith, length-listed s p.count w))
              ∙ ap (map unweighed) (all_there s p.count w);
          stuck = λ z. absurd (true≢false (sym z ∙ o));
          tally = λ z. sym t;
          compared = λ z. c ∙ ap (λ (k : ℕ). p.compared + k) tested-is;
          overflow = λ y z. absurd (true≢false (sym z ∙ o'));
          few = omega (arith, k);
          tested = omega (arith, c, few-tested);
        }

    -- by its fate
    pub one-branch : (f : Fate) → r.fate ≡ f → Went s threshold cutoff (b ∷ []) p w (after f p r.compared (weight_of keyed_weighed b)) w'
    unfolding after count_by tally_by merge_all
    one-branch Merged e = settles (after Merged p r.compared (weight_of keyed_weighed b)) (rw e at m.packed) o refl (omega arith) ((rw e at tally-is) ∙ simp add-zero)
    one-branch Stored e = settles (after Stored p r.compared (weight_of keyed_weighed b)) (rw e at m.packed) o refl (omega arith) ((rw e at tally-is) ∙ simp add-zero)
    one-branch Dropped e = settles (after Dropped p r.compared (weight_of keyed_weighed b)) (rw e at m.packed) o refl (omega arith) ((rw e at tally-is) ∙ simp add-zero)
    one-branch NoRoom e =
        record {
          packed = rw e at m.packed;
          grows = le_refl p.count;
          front = ap (λ (v : List ℕ). map unweighed (take p.count (listed s p.count v))) (m.unchanged e) ∙ ap (map unweighed) (all_there s p.count w);
          stuck = λ z. refl;
          tally = λ z. absurd (true≢false z);
          compared = λ z. absurd (true≢false z);
          overflow = λ y z. omega (arith, m.full e, ap (λ (u : Tally Keyed). length u.entries) (rw e at tally-is), length-append (listed s p.count w') (b ∷ []), length-listed s p.count w');
          few = omega arith;
          tested = omega (arith, few-tested);
        }

  -- ---- once a branch has found no room, one more changes nothing

  pub left_alone : (b : Keyed) (p : Progress) (w : List ℕ) → Packed s p.count w → p.full ≡ true → Went s threshold cutoff (b ∷ []) p w p w
  left_alone b p w g f =
      record {
        packed = g;
        grows = le_refl p.count;
        front = ap (map unweighed) (all_there s p.count w);
        stuck = λ z. z;
        tally = λ z. absurd (true≢false (sym f ∙ z));
        compared = λ z. absurd (true≢false (sym f ∙ z));
        overflow = λ y z. absurd (true≢false (sym z ∙ y));
        few = omega arith;
        tested = omega arith;
      }

  -- ---- two runs of branches, one after the other

  module _ (bs cs : List Keyed) (p q r : Progress) (u v w : List ℕ) (a : Went s threshold cutoff bs p u q v) (b : Went s threshold cutoff cs q v r w) where
    still : r.full ≡ false → q.full ≡ false
    still z = go q.full refl
      where
        go : (f : Bool) → q.full ≡ f → q.full ≡ false
        go false e = e
        go true e = absurd (true≢false (sym (b.stuck e) ∙ z))

    both : merge_all (engine s threshold) (above_cutoff cutoff) (bs ++ cs) (tally_of s p u) ≡ merge_all (engine s threshold) (above_cutoff cutoff) cs (merge_all (engine s threshold) (above_cutoff cutoff) bs (tally_of s p u))
    both = merge_all-append (engine s threshold) (above_cutoff cutoff) bs cs (tally_of s p u)

    both-overflow : p.full ≡ false → r.full ≡ true → s.capacity < length (merge_all (engine s threshold) (above_cutoff cutoff) (bs ++ cs) (tally_of s p u)).entries
    both-overflow y z = go q.full refl
      where
        go : (f : Bool) → q.full ≡ f → s.capacity < length (merge_all (engine s threshold) (above_cutoff cutoff) (bs ++ cs) (tally_of s p u)).entries
        go true e = omega (arith, ap (λ (t : Tally Keyed). length t.entries) both, a.overflow y e, merge_all-grows (engine s threshold) (above_cutoff cutoff) cs (merge_all (engine s threshold) (above_cutoff cutoff) bs (tally_of s p u)))
        go false e = omega (arith, ap (λ (t : Tally Keyed). length t.entries) both, ap (λ (t : Tally Keyed). length (merge_all (engine s threshold) (above_cutoff cutoff) cs t).entries) (a.tally e), b.overflow e z)

    both-front : map unweighed (take p.count (listed s r.count w)) ≡ map unweighed (listed s p.count u)
    both-front =
        ap (map unweighed) (sym (take-take p.count q.count (listed s r.count w) a.grows))
        ∙ map-take unweighed p.count _
        ∙ ap (take p.count) b.front
        ∙ sym (map-take unweighed p.count _)
        ∙ a.front

    both-tested : r.full ≡ false → r.compared ≡ p.compared + how_many (tested_all usual_salts s threshold (above_cutoff cutoff) (bs ++ cs) (tally_of s p u))
    both-tested z =
        omega (
          arith,
          b.compared z,
          a.compared (still z),
          tested-append usual_salts s threshold (above_cutoff cutoff) bs cs (tally_of s p u),
          ap (λ (t : Tally Keyed). how_many (tested_all usual_salts s threshold (above_cutoff cutoff) cs t)) (a.tally (still z)),
        )

    pub two_runs : Went s threshold cutoff (bs ++ cs) p u r w
    two_runs =
        record {
          packed = b.packed;
          grows = le_trans a.grows b.grows;
          front = both-front;
          stuck = λ z. b.stuck (a.stuck z);
          tally = λ z. b.tally z ∙ ap (merge_all (engine s threshold) (above_cutoff cutoff) cs) (a.tally (still z)) ∙ sym both;
          compared = both-tested;
          overflow = both-overflow;
          few = omega (arith, a.few, b.few, length-append bs cs);
          tested = omega (arith, a.tested, b.tested, length-append bs cs);
        }
