-- The entries that left come back one after the other: those still to come are as they were, and with them what is merged gives the whole. Assumes
-- nothing.
use mathlib.Core.Path.{◌≡◌, refl, sym, ap, ap₂, ◌∙◌}
use mathlib.Core.List.{List, [], ◌∷◌, map}
use Prim.Native.Nat.{ℕ, ◌+◌, ◌-◌, ◌≤◌, ◌<◌}
use native.Mathlib.Nat.{zero-add, add-zero}
use native.Mathlib.Numerals.{add-one}
use native.Mathlib.Omega.{arith}
use lib.Ieee.{Float}
use lib.ListN.{length, drop, get_or, drop_of_length-le}
use lib.Seq.{drop-cons}
use Rattle.model.specs.Entries.{Keyed, entry_len, entry_of, stretch}
use Rattle.model.specs.Keys.{usual_salts}
use Rattle.model.specs.Changes.{changed_entry, changed_keyed}
use Rattle.model.specs.Store.{Tally, keyed_weighed, weight_of, begun, walk, merge, merge_all, tested_all, how_many, above_cutoff}
use Rattle.model.specs.Calls.{engine}
use Rattle.model.specs.declared.Size.{Size}
use Rattle.model.proofs.Groups.{stride-le}
use Rattle.model.specs.Sound.{Packed, FewCoefficients}
use Rattle.model.proofs.Packed.{within}
use Rattle.places.specs.Places.{picked, Distinct, Apart}
use Rattle.places.proofs.Arranged.{at_most}
use Rattle.seeking.proofs.Walk.{tested-few}
use Rattle.merging.specs.Fates.{count_by, tally_by}
use Rattle.merging.specs.declared.Fate.{Fate}
use Rattle.merging.specs.declared.Fate.TheVariants.{Merged, Stored, Dropped, NoRoom}
use Rattle.merging.specs.declared.Settled.{Settled}
use Rattle.merging.proofs.Merge.{added, merge-adds}
use Rattle.seeking.specs.Noted.{seen_at, SeenIn, Noted}
use Rattle.seeking.proofs.Noting.{given}
use Rattle.merging.specs.Progress.{Light, after, started}
use Rattle.merging.specs.declared.Progress.{Progress}
use Rattle.merging.proofs.Went.{count-after}
use Rattle.reset.specs.Return.{live, live_at, Returned, tally_on, Brought}
use Rattle.reset.proofs.Returning.{picked-long, picked-at}

-- ---- entries picked by their places

-- places of listed entries lie in the store
pub picked-in : {s : Size} {total m : ℕ} {places w : List ℕ} → Packed s total w → m ≤ length places → Distinct total m places → SeenIn s m places w
picked-in {s} {total} {m} {places} {w} g h t i b =
    rw (given places i i 0 (omega arith)) (omega (arith, stride-le (entry_len s) (get_or places i 0) total (t.below i b), within s total w g))

-- ---- what a fate adds

abbrev counts : Progress → ℕ
counts p = p.merged + p.stored + p.dropped

module _ (p : Progress) (k v : ℕ) where
  fate-adds : (f : Fate) → (f ≡ NoRoom → ⊥) → ((after f p k v).compared ≡ p.compared + k) × (counts (after f p k v) ≡ counts p + 1) × ((after f p k v).count ≤ p.count + 1)
  unfolding after
  fate-adds Merged n = (refl, omega arith, omega arith)
  fate-adds Stored n = (refl, omega arith, omega arith)
  fate-adds Dropped n = (refl, omega arith, omega arith)
  fate-adds NoRoom n = absurd (n refl)

  tally-adds : (s : Size) (b : Keyed) (order w order' w' : List ℕ) (f : Fate) → (f ≡ NoRoom → ⊥)
      → added v (tally_on s p order w) (tally_by f b (picked s (count_by f p.count) order' w')) ≡ tally_on s (after f p k v) order' w'
  unfolding after count_by tally_by
  tally-adds s b order w order' w' Merged n = simp add-zero
  tally-adds s b order w order' w' Stored n = simp add-zero
  tally-adds s b order w order' w' Dropped n = simp add-zero
  tally-adds s b order w order' w' NoRoom n = absurd (n refl)

-- ---- those at the places of `left` come back

module _ (s : Size) (threshold cutoff : Float) (q stay total : ℕ) (order₀ left w₀ : List ℕ) where
  abbrev out : ℕ
  out = total - stay

  abbrev ins : List Keyed
  ins = picked s stay order₀ w₀

  abbrev outs : List Keyed
  outs = picked s out left w₀

  -- what the branches from the j-th on make of a tally, and how many full comparisons that takes
  abbrev merged_from : ℕ → Tally Keyed → Tally Keyed
  merged_from j t = merge_all (engine s threshold) (above_cutoff cutoff) (map (live s q) (drop j outs)) t

  abbrev tested_from : ℕ → Tally Keyed → ℕ
  tested_from j t = how_many (tested_all usual_salts s threshold (above_cutoff cutoff) (map (live s q) (drop j outs)) t)

  -- the first j are back, which left p
  pub record Bringing (j : ℕ) (p : Progress) (order w keys firsts : List ℕ) : Type 0 where
    pub packed : Packed s total w
    pub long : length order ≡ 256
    pub few : p.count ≤ stay + j
    pub light : Light j p
    pub once : Distinct total p.count order
    pub noted : Noted p.count (seen_at s order w) keys firsts
    pub apart : Apart p.count j out order left
    -- those still to come are as they were
    pub still : (k : ℕ) → j ≤ k → k < out → entry_of s (stretch s w (get_or left k 0)) ≡ entry_of s (stretch s w₀ (get_or left k 0))
    pub tally : merged_from j (tally_on s p order w) ≡ merged_from 0 (begun ins)
    pub compared : p.compared + tested_from j (tally_on s p order w) ≡ tested_from 0 (begun ins)

  pub none-brought : (keys firsts : List ℕ) → Packed s total w₀ → length order₀ ≡ 256 → Distinct total stay order₀ → Apart stay 0 out order₀ left
      → Noted stay (seen_at s order₀ w₀) keys firsts → Bringing 0 (started stay) order₀ w₀ keys firsts
  none-brought keys firsts g l t a n =
      record {
        packed = g;
        long = l;
        few = omega arith;
        light = record { settled = omega arith; compared = omega arith };
        once = t;
        noted = n;
        apart = a;
        still = λ k z y. refl;
        tally = refl;
        compared = zero-add _;
      }

  -- ---- one more

  module _ (l : length left ≡ 256) (t₀ : Distinct total out left) (j : ℕ) (p : Progress) (order w keys firsts : List ℕ) (t : Bringing j p order w keys firsts) (h : j < out) where
    abbrev place : ℕ
    place = get_or left j 0

    long-left : out ≤ length left
    long-left = omega (arith, at_most t.packed)

    pub few-there : FewCoefficients s total w₀ → (entry_of s (stretch s w place)).entry.body.count ≤ s.k
    few-there f = rw (t.still j (omega arith) h) (f place (t₀.below j h))

    pub room-there : p.count < total
    room-there = omega (arith, t.few)

    abbrev branch : Keyed
    branch = live_at s q w place

    -- becoming live it keeps its weight
    abbrev weight : ℕ
    weight = weight_of keyed_weighed (entry_of s (stretch s w place))

    to-come : map (live s q) (drop j outs) ≡ branch ∷ map (live s q) (drop (j + 1) outs)
    to-come =
        let d = entry_of s [] in
        ap (map (live s q)) (drop-cons outs j d (omega (arith, picked-long s out left w₀ long-left)))
        ∙ ap₂ (λ (e : Keyed) (k : ℕ). live s q e ∷ map (live s q) (drop k outs)) (picked-at s out left w₀ long-left j d h ∙ sym (t.still j (omega arith) h)) (sym (add-one j))

    module _ (order' w' keys' firsts' : List ℕ) (r : Settled) (m : Returned s total p.count threshold cutoff place branch order w order' w' keys' firsts' r) where
      abbrev before : Tally Keyed
      before = tally_on s p order w

      pub few-tested : r.compared ≤ 256
      few-tested =
          let n : p.count ≤ length order = omega (arith, t.long, room-there, at_most t.packed) in
          omega (arith, m.tested, tested-few s threshold branch 0 (picked s p.count order w), picked-long s p.count order w n)

      abbrev next : Progress
      next = after r.fate p r.compared weight

      abbrev one : Tally Keyed
      one = merge (engine s threshold) (above_cutoff cutoff) branch before

      one-is : one ≡ tally_on s next order' w'
      unfolding changed_keyed changed_entry
      one-is =
          merge-adds (engine s threshold) (above_cutoff cutoff) branch before
          ∙ ap (added weight before) m.tally
          ∙ tally-adds p r.compared weight s branch order w order' w' r.fate m.roomy

      merged-next : merged_from j before ≡ merged_from (j + 1) one
      unfolding merge_all
      merged-next = ap (λ (bs : List Keyed). merge_all (engine s threshold) (above_cutoff cutoff) bs before) to-come

      tested-next : tested_from j before ≡ length (walk s threshold branch 0 (picked s p.count order w)).tested + tested_from (j + 1) one
      unfolding tested_all how_many
      tested-next = ap (λ (bs : List Keyed). how_many (tested_all usual_salts s threshold (above_cutoff cutoff) bs before)) to-come

      -- one that is still to come
      other : (k : ℕ) → j + 1 ≤ k → k < out → (entry_of s (stretch s w' (get_or left k 0)) ≡ entry_of s (stretch s w (get_or left k 0))) × ((u : ℕ) → u < count_by r.fate p.count → get_or order' u 0 ≡ get_or left k 0 → ⊥)
      other k a b =
          m.others (get_or left k 0) (t₀.below k b)
          (λ (e : get_or left k 0 ≡ get_or left j 0). let o : k ≡ j = t₀.once k j b h e in omega arith)
          (λ u g. t.apart u k g (omega arith) b)

      pub one-brought : (v : ℕ) → v ≡ weight → (p' : Progress) → p' ≡ after r.fate p r.compared v → Bringing (j + 1) p' order' w' keys' firsts'
      one-brought v x p' e =
          let f = fate-adds p r.compared weight r.fate m.roomy in
          let n : next.count ≡ count_by r.fate p.count = count-after r.fate p r.compared weight in
          rw (e ∙ ap (after r.fate p r.compared) x)
          (record {
            packed = m.packed;
            long = m.long;
            few = omega (arith, f.2, t.few);
            light = record { settled = omega (arith, f.1, t.light.settled); compared = omega (arith, f.0, few-tested, t.light.compared) };
            once = rw n m.once;
            noted = rw n m.noted;
            apart = λ u k g a b. (other k a b).1 u (omega (arith, g, n));
            still = λ k a b. (other k a b).0 ∙ t.still k (omega arith) b;
            tally = ap (merged_from (j + 1)) (sym one-is) ∙ sym merged-next ∙ t.tally;
            compared = omega (arith, f.0, m.tested, ap (tested_from (j + 1)) one-is, tested-next, t.compared);
          })

  -- ---- all of them

  module _ (l : length left ≡ 256) (b : stay ≤ total) (p : Progress) (order w keys firsts : List ℕ) (t : Bringing out p order w keys firsts) where
    none_left : drop out outs ≡ []
    none_left = drop_of_length-le outs {i = out} (omega (arith, picked-long s out left w₀ (omega (arith, at_most t.packed))))

    pub all-brought : Brought s total threshold cutoff ins (map (live s q) outs) p order w
    unfolding merge_all tested_all how_many
    all-brought =
        record {
          packed = t.packed;
          within = omega (arith, t.few);
          long = t.long;
          once = t.once;
          tally = sym (ap (λ (es : List Keyed). merge_all (engine s threshold) (above_cutoff cutoff) (map (live s q) es) (tally_on s p order w)) none_left) ∙ t.tally;
          compared =
              sym (ap (λ (es : List Keyed). p.compared + how_many (tested_all usual_salts s threshold (above_cutoff cutoff) (map (live s q) es) (tally_on s p order w))) none_left ∙ add-zero p.compared)
              ∙ t.compared;
        }
