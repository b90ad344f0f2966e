-- What merging one branch gives: it adds to the counts of any tally, and what a store then holds, by where the search found the branch. Assumes nothing.
use Rattle.std.specs.Prelude.{Option, Some, None}
use mathlib.Core.Path.{◌≡◌, refl, sym, ap, ◌∙◌}
use mathlib.Core.Bool.{Bool, true, false}
use mathlib.Core.List.{List, [], ◌∷◌}
use Prim.Native.Nat.{ℕ, zero, suc, ◌+◌, ◌*◌, ◌<◌, ◌≤◌}
use native.Mathlib.Nat.{not-suc-le-zero, le_of_suc-le-suc, add-zero}
use native.Mathlib.Numerals.{add-one}
use native.Mathlib.Omega.{arith}
use lib.Ieee.{Float}
use lib.ListN.{length, get_or, set}
use lib.Seq.{drop-set-lt, get_or-take, get_or-drop}
use Rattle.model.specs.Lists.{altered}
use Rattle.model.specs.Floats.{float, bits, plus}
use Rattle.model.specs.Entries.{Keyed, head_len, coefs_len, entry_len, entry_of, stretch, listed, with_stretch}
use Rattle.model.specs.Store.{Weighed, Holding, Tally, no_loss, with_dropped, begun, keyed_weighed, weight_of, reweighed, gained, stored_or_dropped, settled, merge, above_cutoff}
use Rattle.model.specs.declared.Size.{Size}
use Rattle.model.specs.declared.Lost.{Lost}
use Rattle.model.proofs.Entries.{length-stretch, length-listed, listed_at}
use Rattle.model.specs.Sound.{Packed}
use Rattle.model.proofs.Packed.{within, set-listed, set-packed, more-listed, more-packed}
use Rattle.seeking.specs.Walk.{Searched}
use Rattle.seeking.specs.declared.Search.{Search}
use Rattle.seeking.proofs.Walk.{found_below}
use Rattle.merging.specs.Fates.{count_by, tally_by, SettledBy, MergedBy}
use Rattle.merging.specs.declared.Fate.{Fate}
use Rattle.merging.specs.declared.Fate.TheVariants.{Merged, Stored, Dropped, NoRoom}

-- two constructors are never equal: `cc` shows this first
never : {A : Type 0} → ◌≡◌ {A = ℕ} 0 1 → A
never z = absurd (omega arith)

-- ---- on any tally

-- what is lost once so many branches more of weight w were dropped: one or none
abbrev pub lost_more : ℕ → (w : ℕ) → Lost → Lost
lost_more zero w l = l
lost_more (suc n) w l = with_dropped l w

-- the tally u of a branch of weight w, added to what t counted before
abbrev pub added : {X : Type 0} → (w : ℕ) → Tally X → Tally X → Tally X
added w t u =
    record {
      entries = u.entries;
      merged = t.merged + u.merged;
      stored = t.stored + u.stored;
      dropped = t.dropped + u.dropped;
      lost = lost_more u.dropped w t.lost;
    }

module _ {X : Type 0} (W : Weighed X) (b : X) (t : Tally X) where
  stored-adds : (a : Bool) → stored_or_dropped W b t a ≡ added (weight_of W b) t (stored_or_dropped W b (begun t.entries) a)
  unfolding stored_or_dropped
  stored-adds true = simp (add-one, add-zero)
  stored-adds false = simp (add-one, add-zero)

  settled-adds : (admit : ℕ → Bool) (f : Option ℕ) → settled W admit b t f ≡ added (weight_of W b) t (settled W admit b (begun t.entries) f)
  unfolding settled
  settled-adds admit (Some i) = simp (add-one, add-zero)
  settled-adds admit None = stored-adds (admit (weight_of W b))

-- merging a branch adds to the counts
pub merge-adds : {X : Type 0} (H : Holding X) (admit : ℕ → Bool) (b : X) (t : Tally X) → merge H admit b t ≡ added (weight_of H.weighed b) t (merge H admit b (begun t.entries))
unfolding merge
merge-adds H admit b t = settled-adds H.weighed b t admit (H.find b t.entries)

-- ---- one word of an entry, and one entry of a list

pub altered-is : {X : Type 0} (f : X → X) (i : ℕ) (l : List X) (d : X) → i < length l → altered f i l ≡ set l i (f (get_or l i d))
unfolding altered
altered-is f i [] d h = absurd (not-suc-le-zero h)
altered-is f zero (x ∷ l) d h = refl
altered-is f (suc i) (x ∷ l) d h = ap (λ (t : List _). x ∷ t) (altered-is f i l d (le_of_suc-le-suc h))

-- an entry's first word is its weight
pub weight-set : (s : Size) (e : List ℕ) (v : ℕ) → length e ≡ entry_len s → entry_of s (set e 0 v) ≡ reweighed keyed_weighed v (entry_of s e)
unfolding entry_of reweighed
weight-set s [] v h = absurd (omega arith)
weight-set s (a ∷ e) v h = rw (drop-set-lt (head_len + coefs_len s) (a ∷ e) 0 v (omega arith))

-- ---- the branch's words bw are settled in the store w

module _ (s : Size) (count : ℕ) (cutoff : Float) (bw w : List ℕ) (p : Packed s count w) where
  abbrev Leaves : Option ℕ → Fate → List ℕ → Type 0
  Leaves f fate w' = SettledBy s count cutoff (entry_of s bw) f w w' fate

  abbrev admitted : Bool
  admitted = above_cutoff cutoff (weight_of keyed_weighed (entry_of s bw))

  -- the first word of entry i gains the branch's: so does the entry
  gained-listed : (i : ℕ) → i < count → (v : ℕ) → v ≡ bits (plus (float (get_or w (i * entry_len s) 0)) (float (get_or bw 0 0)))
      → altered (gained keyed_weighed (entry_of s bw)) i (listed s count w) ≡ listed s count (set w (i * entry_len s) v)
  unfolding gained entry_of
  gained-listed i l v g =
      let len = entry_len s in
      let es = listed s count w in
      let some : 0 < entry_len s = omega arith in
      let e = stretch s w i in
      let first : get_or e 0 0 ≡ get_or w (i * len) 0 = rw (get_or-take, get_or-drop, add-zero) in
      let v-is : bits (plus (float (get_or e 0 0)) (float (get_or bw 0 0))) ≡ v = rw first (sym g) in
      altered-is (gained keyed_weighed (entry_of s bw)) i es (entry_of s e) (omega (arith, length-listed s count w))
      ∙ ap (λ (x : Keyed). set es i (gained keyed_weighed (entry_of s bw) x)) (listed_at s count i w (entry_of s e) l)
      ∙ ap (λ (u : ℕ). set es i (reweighed keyed_weighed u (entry_of s e))) v-is
      ∙ ap (set es i) (sym (weight-set s e v (length-stretch s w i count (within s count w p) l)))
      ∙ sym (set-listed s count w p i l 0 v (omega arith))
      ∙ ap (λ (k : ℕ). listed s count (set w k v)) (add-zero (i * len))

  -- found at place i: the weight there gains the branch's
  pub merged : (i : ℕ) → i < count → (v : ℕ) → v ≡ bits (plus (float (get_or w (i * entry_len s) 0)) (float (get_or bw 0 0)))
      → Leaves (Some i) Merged (set w (i * entry_len s) v)
  unfolding settled count_by tally_by
  merged i l v g =
      record {
        packed = rw add-zero at (set-packed s count w p i l 0 v (omega arith));
        tally = ap (λ (es : List Keyed). record { entries = es; merged = 1; stored = 0; dropped = 0; lost = no_loss }) (gained-listed i l v g);
        unchanged = λ z. never (cc);
        full = λ z. never (cc);
      }

  -- found nowhere, above the cutoff, with room: appended
  pub stored : length bw ≡ entry_len s → admitted ≡ true → count < s.capacity → Leaves None Stored (with_stretch (entry_len s) count w bw)
  unfolding settled stored_or_dropped count_by tally_by
  stored q a l =
      record {
        packed = more-packed s count w p l bw q;
        tally = rw a (ap (λ (es : List Keyed). record { entries = es; merged = 0; stored = 1; dropped = 0; lost = no_loss }) (sym (more-listed s count w p l bw q)));
        unchanged = λ z. never (cc);
        full = λ z. never (cc);
      }

  -- above the cutoff, with no room: nothing is changed
  pub no_room : admitted ≡ true → s.capacity ≤ count → Leaves None NoRoom w
  unfolding settled stored_or_dropped count_by tally_by
  no_room a l = record { packed = p; tally = rw a; unchanged = λ z. refl; full = λ z. omega (arith, p.room) }

  -- not above the cutoff
  pub dropped : admitted ≡ false → Leaves None Dropped w
  unfolding settled stored_or_dropped count_by tally_by
  dropped a = record { packed = p; tally = rw a; unchanged = λ z. never (cc); full = λ z. never (cc) }

-- ---- after a search for the branch b

module _ (s : Size) (count : ℕ) (threshold cutoff : Float) (b : Keyed) (w : List ℕ) (r : Search) (f : Searched s threshold b (listed s count w) r) where
  pub place-below : (i : ℕ) → r.found ≡ Some i → i < count
  place-below i e = omega (arith, found_below s threshold b 0 (listed s count w) i (sym f.found ∙ e), length-listed s count w)

  -- its answer settles the branch
  pub settles : (x : Option ℕ) → r.found ≡ x → (fate : Fate) (w' : List ℕ) → SettledBy s count cutoff b x w w' fate
      → MergedBy s count threshold cutoff b w w' (record { fate = fate; compared = r.compared })
  unfolding merge
  settles x e fate w' k =
      record {
        tested = f.tested;
        packed = k.packed;
        tally = ap (settled keyed_weighed (above_cutoff cutoff) b (begun (listed s count w))) (sym f.found ∙ e) ∙ k.tally;
        unchanged = k.unchanged;
        full = k.full;
      }
