-- Entries scaled, and their branches merged. Assumes nothing.
use mathlib.Core.Path.{◌≡◌, refl, sym, ap, ap₂, ◌∙◌}
use mathlib.Core.Bool.{Bool, true, false, cond}
use mathlib.Core.List.{List, [], ◌∷◌, map}
use Prim.Native.Nat.{ℕ}
use native.Mathlib.Nat.{zero-add}
use native.Mathlib.Omega.{arith}
use lib.Ieee.{Float}
use lib.ListN.{length, take, get_or}
use Rattle.model.specs.Floats.{float, bits, times}
use Rattle.model.specs.Entries.{Keyed, entry_of, stretch, listed}
use Rattle.model.specs.Keys.{usual_salts}
use Rattle.model.specs.Store.{keyed_weighed, weight_of, reweighed, begun, merge_all, tested_all, how_many, above_cutoff, Tally}
use Rattle.model.specs.Calls.{engine}
use Rattle.model.specs.declared.Size.{Size}
use Rattle.model.proofs.Lists.{get_or-mapped}
use Rattle.model.proofs.Entries.{length-listed, listed_at}
use Rattle.arms.specs.declared.Arms.{Arms}
use Rattle.arms.specs.declared.Shape.{Shape}
use Rattle.merging.specs.Progress.{unweighed, Went, started}
use Rattle.model.specs.Sound.{FewCoefficients}
use Rattle.spread.specs.Branches.{live_at, scaled_by, branches_up_to}
use Rattle.spread.specs.Spread.{keep_by, split_for, Spread}
use Rattle.merging.specs.declared.Progress.{Progress}
use Rattle.spread.proofs.Parents.{same_count}
use Rattle.spread.proofs.Split.{all-branches}

scaled-blind : (h : Shape) (keep : Float) (e : Keyed) → unweighed (scaled_by h keep e) ≡ unweighed e
unfolding scaled_by reweighed
scaled-blind h keep e = go (live_at h e.entry.body.loss)
  where
    go : (b : Bool) → unweighed (cond b (reweighed keyed_weighed (bits (times (float e.entry.weight) keep)) e) e) ≡ unweighed e
    go true = refl
    go false = refl

all-blind : (h : Shape) (keep : Float) (es : List Keyed) → map unweighed (map (scaled_by h keep) es) ≡ map unweighed es
all-blind h keep [] = refl
all-blind h keep (e ∷ es) = ap₂ (λ (x : Keyed) (l : List Keyed). x ∷ l) (scaled-blind h keep e) (all-blind h keep es)

-- scaling leaves the coefficients
pub still-few : (s : Size) (h : Shape) (keep : Float) (n : ℕ) (w v : List ℕ) → listed s n v ≡ map (scaled_by h keep) (listed s n w) → FewCoefficients s n w → FewCoefficients s n v
still-few s h keep n w v e f i k =
    let d = entry_of s [] in
    let x : entry_of s (stretch s v i) ≡ scaled_by h keep (entry_of s (stretch s w i)) =
    sym (listed_at s n i v d k) ∙ ap (λ (l : List Keyed). get_or l i d) e ∙ get_or-mapped (scaled_by h keep) (listed s n w) i d d (omega (arith, length-listed s n w, k)) ∙ ap (scaled_by h keep) (listed_at s n i w d k)
    in
    omega (arith, f i k, same_count (entry_of s (stretch s v i)) (entry_of s (stretch s w i)) (ap unweighed x ∙ scaled-blind h keep (entry_of s (stretch s w i))))

module _ (s : Size) (threshold cutoff : Float) (r : Arms) (n : ℕ) (saved w v w' : List ℕ) (p : Progress)
    (old : take n saved ≡ map (weight_of keyed_weighed) (listed s n w)) (now : listed s n v ≡ map (scaled_by r.shape (keep_by r)) (listed s n w))
    (t : Went s threshold cutoff (branches_up_to s threshold r saved v n) (started n) v p w') where
  abbrev es : List Keyed
  es = listed s n w

  branches-are : branches_up_to s threshold r saved v n ≡ (split_for s threshold r es).branches
  branches-are = all-branches s threshold r (keep_by r) saved v n es (length-listed s n w) old now

  merged-are : merge_all (engine s threshold) (above_cutoff cutoff) (branches_up_to s threshold r saved v n) (begun (listed s n v)) ≡ merge_all (engine s threshold) (above_cutoff cutoff) (split_for s threshold r es).branches (begun (split_for s threshold r es).stay)
  merged-are = ap₂ (λ (b l : List Keyed). merge_all (engine s threshold) (above_cutoff cutoff) b (begun l)) branches-are now

  pub spread-is : Spread s threshold cutoff r es p w'
  spread-is =
      record {
        packed = t.packed;
        grows = omega (arith, t.grows, length-listed s n w);
        front = ap (λ (k : ℕ). map unweighed (take k (listed s p.count w'))) (length-listed s n w) ∙ t.front ∙ ap (map unweighed) now ∙ all-blind r.shape (keep_by r) es;
        tally = λ z. t.tally z ∙ merged-are;
        compared = λ z. t.compared z ∙ zero-add _ ∙ ap₂ (λ (b l : List Keyed). how_many (tested_all usual_salts s threshold (above_cutoff cutoff) b (begun l))) branches-are now;
        overflow = λ z. omega (arith, t.overflow refl z, ap (λ (u : Tally Keyed). length u.entries) merged-are);
      }
