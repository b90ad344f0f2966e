-- An entry comes back into the list that is given by places: the search sees that list; and found, above the cutoff or below it, the entry is merged
-- as the definition says, since the store changes at one place only, which the list has once or not at all. Assumes nothing.
use Rattle.std.specs.Prelude.{Option, Some, None}
use mathlib.Core.Path.{◌≡◌, refl, sym, ap, ap₂, ◌∙◌}
use mathlib.Core.Bool.{true, false}
use mathlib.Core.List.{List, [], ◌∷◌, ◌++◌, map, map-append}
use Prim.Native.Nat.{ℕ, ◌+◌, ◌*◌, ◌≤◌, ◌<◌}
use native.Mathlib.Nat.{add-zero}
use native.Mathlib.Numerals.{add-one}
use native.Mathlib.Omega.{arith}
use lib.Ieee.{Float}
use lib.ListN.{length, take, drop, get_or, set, length-set, length-map}
use lib.Seq.{length-take-le, get_or-take, get_or-drop, get_or-set_same, get_or-set_other, take-suc-set, ext_get_or}
use Rattle.model.specs.Lists.{altered}
use Rattle.model.specs.Entries.{Keyed, entry_len, entry_of, listed}
use Rattle.model.specs.Keys.{stored_key}
use Rattle.model.specs.Changes.{changed_entry, changed_keyed}
use Rattle.model.specs.Store.{Tally, no_loss, begun, keyed_weighed, weight_of, reweighed, gained, stored_or_dropped, settled, merge, above_cutoff}
use Rattle.model.specs.declared.Size.{Size}
use Rattle.model.proofs.Lists.{get_or-mapped}
use Rattle.model.proofs.Groups.{stride-le}
use Rattle.model.proofs.Entries.{length-listed, listed_at}
use Rattle.model.specs.Sound.{Packed}
use Rattle.model.proofs.Packed.{within}
use Rattle.places.specs.Places.{picked, Distinct}
use Rattle.places.proofs.Inverse.{either}
use Rattle.places.proofs.Distinct.{each_more, one_more}
use Rattle.places.proofs.Arranged.{at_most}
use Rattle.places.proofs.Walked.{entry_at}
use Rattle.seeking.specs.Walk.{Searched}
use Rattle.seeking.specs.declared.Search.{Search}
use Rattle.seeking.proofs.Walk.{found_below}
use Rattle.merging.specs.Fates.{count_by, tally_by}
use Rattle.merging.specs.declared.Fate.{Fate}
use Rattle.merging.specs.declared.Fate.TheVariants.{Merged, Stored, Dropped, NoRoom}
use Rattle.seeking.specs.Noted.{seen_at, SeenIn, gathered, slot_of, Lowered, Noted}
use Rattle.merging.proofs.Merge.{altered-is}
use Rattle.seeking.proofs.Noting.{given, length-gathered, gathered-at, SameKeys, still_noted, one-noted}
use Rattle.reset.specs.Return.{live_at, Returned}

-- ---- the entries at the first m places

module _ (s : Size) (m : ℕ) (order w : List ℕ) (h : m ≤ length order) where
  pub picked-long : length (picked s m order w) ≡ m
  unfolding picked
  picked-long = length-map (take m order) (entry_at s w) ∙ length-take-le m order h

  pub picked-at : (u : ℕ) (d : Keyed) → u < m → get_or (picked s m order w) u d ≡ entry_at s w (get_or order u 0)
  unfolding picked
  picked-at u d l = get_or-mapped (entry_at s w) (take m order) u 0 d (omega (arith, length-take-le m order h)) ∙ ap (entry_at s w) (get_or-take m order u 0 l)

  seen-at : (u : ℕ) → u < m → seen_at s order w u ≡ entry_at s w (get_or order u 0)
  seen-at u l = ap (entry_at s w) (given order u u 0 (omega arith))

  -- those that a search sees
  gathered-picked : gathered m (seen_at s order w) ≡ picked s m order w
  gathered-picked =
      let d = entry_of s [] in
      ext_get_or d (gathered m (seen_at s order w)) (picked s m order w) (length-gathered m (seen_at s order w) ∙ sym picked-long)
      (λ u l.
      let b : u < m = omega (arith, l, length-gathered m (seen_at s order w)) in
      gathered-at m (seen_at s order w) u d b ∙ seen-at u b ∙ sym (picked-at u d b))

-- ---- entry p of the store is now e

module _ (s : Size) (total : ℕ) (w w' : List ℕ) (p : ℕ) (e : Keyed) (l : listed s total w' ≡ set (listed s total w) p e) where
  after : (k : ℕ) → k < total → entry_at s w' k ≡ get_or (set (listed s total w) p e) k (entry_of s [])
  after k h = sym (listed_at s total k w' (entry_of s []) h) ∙ ap (λ (es : List Keyed). get_or es k (entry_of s [])) l

  there : p < total → entry_at s w' p ≡ e
  there h = after p h ∙ get_or-set_same (listed s total w) p e (entry_of s []) (omega (arith, length-listed s total w))

  elsewhere : (k : ℕ) → k < total → (k ≡ p → ⊥) → entry_at s w' k ≡ entry_at s w k
  elsewhere k h n = after k h ∙ get_or-set_other (listed s total w) p k e (entry_of s []) n ∙ listed_at s total k w (entry_of s []) h

  module _ (count : ℕ) (order : List ℕ) (few : count ≤ length order) (d : Distinct total count order) where
    -- the list has it at v
    picked-set : (v : ℕ) → v < count → get_or order v 0 ≡ p → picked s count order w' ≡ set (picked s count order w) v e
    picked-set v b o =
        let none = entry_of s [] in
        let es = picked s count order w in
        let long : length es ≡ count = picked-long s count order w few in
        let long' : length (picked s count order w') ≡ count = picked-long s count order w' few in
        ext_get_or none (picked s count order w') (set es v e) (long' ∙ sym (length-set es v e ∙ long))
        (λ u a.
        let h : u < count = omega (arith, a, long') in
        picked-at s count order w' few u none h
        ∙ either u v
        (λ z. ap (λ (k : ℕ). entry_at s w' (get_or order k 0)) z ∙ ap (entry_at s w') o ∙ there (rw o at (d.below v b))
        ∙ sym (ap (λ (k : ℕ). get_or (set es v e) k none) z ∙ get_or-set_same es v e none (omega (arith, long, b))))
        (λ n.
        elsewhere (get_or order u 0) (d.below u h) (λ z. n (d.once u v h b (z ∙ sym o)))
        ∙ sym (get_or-set_other es v u e none n ∙ picked-at s count order w few u none h)))

    -- the list does not have it
    module _ (apart : (u : ℕ) → u < count → get_or order u 0 ≡ p → ⊥) where
      picked_same : picked s count order w' ≡ picked s count order w
      picked_same =
          let none = entry_of s [] in
          let long : length (picked s count order w) ≡ count = picked-long s count order w few in
          let long' : length (picked s count order w') ≡ count = picked-long s count order w' few in
          ext_get_or none (picked s count order w') (picked s count order w) (long' ∙ sym long)
          (λ u a.
          let h : u < count = omega (arith, a, long') in
          picked-at s count order w' few u none h ∙ elsewhere (get_or order u 0) (d.below u h) (apart u h) ∙ sym (picked-at s count order w few u none h))

      -- until it is put at its end
      picked_more : p < total → count < length order → picked s (count + 1) (set order count p) w' ≡ picked s count order w ++ e ∷ []
      unfolding picked
      picked_more b z =
          ap (λ (n : ℕ). map (entry_at s w') (take n (set order count p))) (add-one count)
          ∙ ap (map (entry_at s w')) (take-suc-set order count p z)
          ∙ map-append (entry_at s w') (take count order) (p ∷ [])
          ∙ ap₂ (λ (es : List Keyed) (x : Keyed). es ++ x ∷ []) picked_same (there b)

-- ---- one entry

-- the weight of the entry at place i is the first of its words
pub weight-word : (s : Size) (len i : ℕ) (w : List ℕ) → len ≡ entry_len s → get_or w (i * len) 0 ≡ weight_of keyed_weighed (entry_at s w i)
unfolding entry_of
weight-word s len i w e =
    ap (λ (k : ℕ). get_or w (i * k) 0) e
    ∙ ap (λ (k : ℕ). get_or w k 0) (sym (add-zero (i * entry_len s)))
    ∙ sym (get_or-take (entry_len s) (drop (i * entry_len s) w) 0 0 (omega arith) ∙ get_or-drop (i * entry_len s) w 0 0)

-- it plays no part in the key
gained-key : (b e : Keyed) → stored_key (gained keyed_weighed b e) ≡ stored_key e
unfolding gained reweighed stored_key
gained-key b e = refl

-- two constructors are never equal: `cc` shows this first
never : ◌≡◌ {A = ℕ} 0 1 → ⊥
never z = omega arith

-- ---- entry i comes back, live again at q

-- it was searched for among the `count` listed entries
pub record Looked (s : Size) (total count : ℕ) (threshold : Float) (i q : ℕ) (order w keys firsts : List ℕ) (r : Search) : Type 0 where
  pub packed : Packed s total w
  pub long : length order ≡ 256
  pub once : Distinct total count order
  pub noted : Noted count (seen_at s order w) keys firsts
  pub room : count < total
  pub inside : i < total
  pub apart : (u : ℕ) → u < count → get_or order u 0 ≡ i → ⊥
  pub searched : Searched s threshold (live_at s q w i) (gathered count (seen_at s order w)) r

-- the listed entries lie in the store
pub listed_in : {s : Size} {total count : ℕ} {order w : List ℕ} → Packed s total w → count < total → length order ≡ 256 → Distinct total count order → SeenIn s count order w
listed_in {s} {total} {count} {order} {w} p h long d u b =
    rw (given order u u 0 (omega (arith, at_most p)))
    (omega (arith, stride-le (entry_len s) (get_or order u 0) total (d.below u b), within s total w p))

module _ {s : Size} {total count : ℕ} {threshold : Float} {i q : ℕ} {order w keys firsts : List ℕ} {r : Search} (c : Looked s total count threshold i q order w keys firsts r) where
  abbrev branch : Keyed
  branch = live_at s q w i

  abbrev Comes : Float → Fate → (order' w' keys' firsts' : List ℕ) → Type 0
  Comes cutoff fate order' w' keys' firsts' =
      Returned s total count threshold cutoff i branch order w order' w' keys' firsts' (record { fate = fate; compared = r.compared })

  abbrev settled_by : Float → Option ℕ → Tally Keyed
  settled_by cutoff x = settled keyed_weighed (above_cutoff cutoff) branch (begun (picked s count order w)) x

  abbrev Others : ℕ → (order' w' : List ℕ) → Type 0
  Others m order' w' =
      (k : ℕ) → k < total → (k ≡ i → ⊥) → ((u : ℕ) → u < count → get_or order u 0 ≡ k → ⊥)
      → (entry_at s w' k ≡ entry_at s w k) × ((u : ℕ) → u < m → get_or order' u 0 ≡ k → ⊥)

  few : count < length order
  few = omega (arith, at_most c.packed, c.room, c.long)

  fits : count ≤ length order
  fits = omega (arith, few)

  -- the search is the walk over the list
  walked : Searched s threshold branch (picked s count order w) r
  walked = rw (gathered-picked s count order w fits) at c.searched

  pub place-below : (v : ℕ) → r.found ≡ Some v → v < count
  place-below v e =
      omega (arith, found_below s threshold branch 0 (picked s count order w) v (sym walked.found ∙ e), picked-long s count order w fits)

  -- its answer settles the branch
  settles : (cutoff : Float) (x : Option ℕ) → r.found ≡ x → (fate : Fate) (order' w' keys' firsts' : List ℕ) → Packed s total w' → length order' ≡ 256
      → Distinct total (count_by fate count) order' → Noted (count_by fate count) (seen_at s order' w') keys' firsts' → (fate ≡ NoRoom → ⊥)
      → settled_by cutoff x ≡ tally_by fate branch (picked s (count_by fate count) order' w') → Others (count_by fate count) order' w'
      → Comes cutoff fate order' w' keys' firsts'
  unfolding merge
  settles cutoff x e fate order' w' keys' firsts' k l o m z t y =
      record {
        packed = k;
        long = l;
        once = o;
        noted = m;
        roomy = z;
        tested = walked.tested;
        tally = ap (settled_by cutoff) (sym walked.found ∙ e) ∙ t;
        others = y;
      }

  -- found at v: the weight there gains its, which becoming live it keeps
  module _ (v : ℕ) (e : r.found ≡ Some v) where
    abbrev to : ℕ
    to = get_or order v 0

    abbrev sum : Keyed
    sum = gained keyed_weighed (entry_at s w i) (entry_at s w to)

    gains-same : (x : Keyed) → gained keyed_weighed branch x ≡ gained keyed_weighed (entry_at s w i) x
    unfolding gained changed_keyed changed_entry
    gains-same x = refl

    module _ (w' : List ℕ) (l : listed s total w' ≡ set (listed s total w) to sum) where
      below : v < count
      below = place-below v e

      gained-picked : altered (gained keyed_weighed branch) v (picked s count order w) ≡ picked s count order w'
      gained-picked =
          let es = picked s count order w in
          altered-is (gained keyed_weighed branch) v es (entry_of s []) (omega (arith, below, picked-long s count order w fits))
          ∙ ap (λ (x : Keyed). set es v (gained keyed_weighed branch x)) (picked-at s count order w fits v (entry_of s []) below)
          ∙ ap (set es v) (gains-same (entry_at s w to))
          ∙ sym (picked-set s total w w' to sum l count order fits c.once v below refl)

      keys-stay : SameKeys count (seen_at s order w) (seen_at s order w')
      keys-stay u a =
          ap stored_key (seen-at s count order w' fits u a)
          ∙ either (get_or order u 0) to
          (λ z.
          ap (λ (k : ℕ). stored_key (entry_at s w' k)) z
          ∙ ap stored_key (there s total w w' to sum l (c.once.below v below))
          ∙ gained-key (entry_at s w i) (entry_at s w to)
          ∙ ap (λ (k : ℕ). stored_key (entry_at s w k)) (sym z))
          (λ z. ap stored_key (elsewhere s total w w' to sum l (get_or order u 0) (c.once.below u a) z))
          ∙ ap stored_key (sym (seen-at s count order w fits u a))

      pub came-merged : (cutoff : Float) → Packed s total w' → Comes cutoff Merged order w' keys firsts
      unfolding settled count_by tally_by
      came-merged cutoff k =
          settles cutoff (Some v) e Merged order w' keys firsts k c.long c.once (still_noted (seen_at s order w) (seen_at s order w') c.noted keys-stay)
          (λ z. never (cc))
          (ap (λ (es : List Keyed). record { entries = es; merged = 1; stored = 0; dropped = 0; lost = no_loss }) gained-picked)
          (λ j b _ o. (elsewhere s total w w' to sum l j b (λ z. o v below (sym z)), o))

  -- found nowhere
  module _ (e : r.found ≡ None) where
    -- above the cutoff: it becomes live where it stands, and its place is the last
    module _ (w' : List ℕ) (l : listed s total w' ≡ set (listed s total w) i branch) where
      abbrev order' : List ℕ
      order' = set order count i

      long' : length order' ≡ 256
      long' = length-set order count i ∙ c.long

      more : count + 1 ≤ length order'
      more = omega (arith, few, c.long, long')

      earlier-keys : SameKeys count (seen_at s order w) (seen_at s order' w')
      earlier-keys u b =
          ap stored_key
          (seen-at s (count + 1) order' w' more u (omega (arith, b))
          ∙ ap (entry_at s w') (get_or-set_other order count u i 0 (λ z. omega (arith, b, z)))
          ∙ elsewhere s total w w' i branch l (get_or order u 0) (c.once.below u b) (c.apart u b)
          ∙ sym (seen-at s count order w fits u b))

      last-seen : seen_at s order' w' count ≡ branch
      last-seen =
          seen-at s (count + 1) order' w' more count (omega arith)
          ∙ ap (entry_at s w') (get_or-set_same order count i 0 few)
          ∙ there s total w w' i branch l c.inside

      pub came-stored : (cutoff : Float) → above_cutoff cutoff (weight_of keyed_weighed (entry_at s w i)) ≡ true → Packed s total w'
          → (key : ℕ) → key ≡ stored_key branch → (keys' firsts' : List ℕ) → keys' ≡ set keys count key → Lowered (slot_of key) count firsts firsts'
          → Comes cutoff Stored order' w' keys' firsts'
      unfolding settled stored_or_dropped count_by tally_by changed_keyed changed_entry
      came-stored cutoff a k key o keys' firsts' x y =
          settles cutoff None e Stored order' w' keys' firsts' k long' (one_more count i order few total c.inside c.apart c.once)
          (one-noted (seen_at s order w) (seen_at s order' w') c.noted earlier-keys (omega (arith, few, c.long)) (o ∙ sym (ap stored_key last-seen)) x y)
          (λ z. never (cc))
          (rw a
          (ap (λ (es : List Keyed). record { entries = es; merged = 0; stored = 1; dropped = 0; lost = no_loss })
          (sym (picked_more s total w w' i branch l count order fits c.once c.apart c.inside few))))
          (λ j b m z. (elsewhere s total w w' i branch l j b m, each_more count i order few (λ (u : ℕ). u ≡ j → ⊥) z (λ u. m (sym u))))

    -- or not
    pub came-dropped : (cutoff : Float) → above_cutoff cutoff (weight_of keyed_weighed (entry_at s w i)) ≡ false → Comes cutoff Dropped order w keys firsts
    unfolding settled stored_or_dropped count_by tally_by changed_keyed changed_entry
    came-dropped cutoff a =
        settles cutoff None e Dropped order w keys firsts c.packed c.long c.once c.noted (λ z. never (cc)) (rw a) (λ j b m z. (refl, z))
