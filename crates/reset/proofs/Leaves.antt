-- What the reset leaves is what the definition says. Assumes nothing.
use mathlib.Core.Path.{◌≡◌, sym, ap, ap₂, ◌∙◌}
use mathlib.Core.Bool.{false, cond}
use mathlib.Core.List.{List, map}
use Prim.Native.Nat.{ℕ, ◌-◌}
use lib.Ieee.{Float}
use Rattle.model.specs.Entries.{Keyed, listed}
use Rattle.model.specs.Keys.{usual_salts}
use Rattle.model.specs.Store.{Tally, begun, merge_all, merged_split, tested_all, how_many, above_cutoff}
use Rattle.model.specs.Reset.{reset_split, reset_tally}
use Rattle.model.specs.Sum.{done}
use Rattle.model.specs.Calls.{Lent, reset, act, kind_of, rebuilt_entries, rebuilt, worked, acted, engine, dirty_after, words_after, split_as, split_in, split_by, tested_by, gave, changed_to, header_with, accepted, left}
use Rattle.model.specs.declared.Header.{Header}
use Rattle.model.specs.declared.Size.{Size}
use Rattle.model.proofs.Entries.{length-listed}
use Rattle.model.specs.Sound.{Packed}
use Rattle.model.proofs.Packed.{packed-is}
use Rattle.places.specs.Leaving.{leaving}
use Rattle.places.specs.Places.{picked, Left}
use Rattle.merging.specs.Progress.{tallied_by, tally_of}
use Rattle.merging.specs.declared.Progress.{Progress}
use Rattle.reset.specs.Return.{live, lost_of, Brought, Merged}

-- ---- the lost entries merged

module _ (s : Size) (threshold cutoff : Float) (q count : ℕ) (w : List ℕ) (stay : ℕ) (order out : List ℕ) (t : Left s count q w order out stay) (p : Progress) (order' u v : List ℕ)
    (m : Brought s count threshold cutoff (picked s stay order w) (map (live s q) (picked s (count - stay) out w)) p order' u) where
  abbrev es : List Keyed
  es = listed s count w

  abbrev merges : List Keyed → List Keyed → Tally Keyed
  merges bs l = merge_all (engine s threshold) (above_cutoff cutoff) bs (begun l)

  abbrev tests-of : List Keyed → List Keyed → ℕ
  tests-of bs l = how_many (tested_all usual_salts s threshold (above_cutoff cutoff) bs (begun l))

  branches-are : map (live s q) (picked s (count - stay) out w) ≡ lost_of s q es
  branches-are = ap (map (live s q)) t.outs

  -- once the store is in the list's order
  pub lost-merged : Packed s p.count v → listed s p.count v ≡ picked s p.count order' u → Merged s threshold cutoff (leaving q es).stay (lost_of s q es) p v
  lost-merged g a =
      record {
        packed = g;
        tally =
            ap (tallied_by p) a
            ∙ m.tally
            ∙ ap₂ merges branches-are t.ins;
        compared = m.compared ∙ ap₂ tests-of branches-are t.ins;
      }

-- ---- the reset

-- the entries that are listed
abbrev given : Lent → List Keyed
given x = listed x.header.size x.header.count x.words

module _ (x : Lent) (q : ℕ) where
  abbrev hd : Header
  hd = x.header

  abbrev size : Size
  size = hd.size

  abbrev readied : List Keyed
  readied = cond hd.dirty (rebuilt_entries size.n (given x)) (given x)

  module _ (w : List ℕ) (e : listed size hd.count w ≡ readied) where
    module _ (p : Progress) (v : List ℕ) (m : Merged size hd.threshold hd.cutoff (leaving q (listed size hd.count w)).stay (lost_of size q (listed size hd.count w)) p v) where
      pub tally-is : reset_tally (engine size hd.threshold) hd.cutoff q readied ≡ tally_of size p v
      unfolding reset_tally merged_split reset_split
      tally-is = ap (reset_tally (engine size hd.threshold) hd.cutoff q) (sym e) ∙ sym m.tally

      tested-are : how_many (tested_all usual_salts size hd.threshold (above_cutoff hd.cutoff) (reset_split (engine size hd.threshold) q readied).branches (begun (reset_split (engine size hd.threshold) q readied).stay))
          ≡ p.compared
      unfolding reset_split
      tested-are =
          ap (λ (l : List Keyed). how_many (tested_all usual_salts size hd.threshold (above_cutoff hd.cutoff) (reset_split (engine size hd.threshold) q l).branches (begun (reset_split (engine size hd.threshold) q l).stay))) (sym e)
          ∙ sym m.compared

      pub was-reset : gave (accepted (header_with hd p.count false) p.compared (changed_to (tally_of size p v))) v ≡ acted (reset q) x
      unfolding left act rebuilt kind_of dirty_after words_after tested_by split_by split_as split_in accepted
      was-reset =
          sym
          (ap (λ (z : Tally Keyed). left (reset q) x (worked (reset q) x) (done (changed_to z))) tally-is
          ∙ rw (length-listed size p.count v, ← packed-is size p.count v m.packed, tested-are))
