-- What the code scales and makes branches of is what the definition of a channel does. Assumes nothing.
use mathlib.Core.Path.{◌≡◌, refl, sym, ap, ap₂, ◌∙◌}
use mathlib.Core.Bool.{Bool, true, false, cond}
use mathlib.Core.List.{List, [], ◌∷◌, ◌++◌, map, map-append, append-nil, append_assoc}
use Prim.Native.Nat.{ℕ, zero, suc, ◌≤◌, ◌<◌}
use native.Mathlib.Omega.{arith}
use lib.Dec.{eqb}
use lib.Ieee.{Float}
use lib.ListN.{length, take, get_or}
use lib.Seq.{take-suc, take_all, get_or-take}
use Rattle.model.specs.Lists.{every, joined}
use Rattle.model.specs.Floats.{float, bits, times, minus, one_bits}
use Rattle.model.specs.Entries.{Keyed, entry_of, listed}
use Rattle.model.specs.Keys.{bit}
use Rattle.model.specs.Store.{keyed_weighed, weight_of, reweighed}
use Rattle.model.specs.Channels as Channels
use Rattle.model.specs.Channels.{Noise, total_rate, live, scaled, branch_of, branches_of}
use Rattle.model.specs.Calls.{engine}
use Rattle.model.specs.declared.Size.{Size}
use Rattle.model.proofs.Lists.{get_or-mapped}
use Rattle.model.proofs.Entries.{listed_at}
use Rattle.arms.specs.Arms.{arms_list, Stands}
use Rattle.arms.specs.declared.Arms.{Arms}
use Rattle.arms.specs.declared.Shape.{Shape}
use Rattle.spread.specs.Branches.{parent_at, live_at, scaled_by, branches_by, branches_up_to}

module _ (r : Arms) (c : Noise) (h : Stands r c) where
  live-is : (e : Keyed) → live_at r.shape e.entry.body.loss ≡ live c e.entry.body
  unfolding live_at live
  live-is e = ap (every (λ (q : ℕ). eqb (bit q e.entry.body.loss) 0)) h.places

  pub scaled-is : (e : Keyed) → scaled_by r.shape (minus (float one_bits) (total_rate c)) e ≡ scaled keyed_weighed c e
  unfolding scaled_by scaled
  scaled-is e = ap (λ (b : Bool). cond b (reweighed keyed_weighed (bits (times (float e.entry.weight) (minus (float one_bits) (total_rate c)))) e) e) (live-is e)

  pub branches-of : (s : Size) (threshold : Float) (e : Keyed) → branches_by s threshold r e ≡ branches_of (engine s threshold) c e
  unfolding branches_by branches_of arms_list
  branches-of s threshold e =
      ap₂ (λ (b : Bool) (l : List Channels.Arm). cond b (map (branch_of (engine s threshold) e) l) []) (live-is e) h.rates

-- a parent with its weight put back
unscaled : (h : Shape) (keep : Float) (x : Keyed) → reweighed keyed_weighed (weight_of keyed_weighed x) (scaled_by h keep x) ≡ x
unfolding scaled_by reweighed
unscaled h keep x = go (live_at h x.entry.body.loss)
  where
    go : (b : Bool) → reweighed keyed_weighed (weight_of keyed_weighed x) (cond b (reweighed keyed_weighed (bits (times (float x.entry.weight) keep)) x) x) ≡ x
    go true = refl
    go false = refl

joined-more : {X : Type 0} (ls : List (List X)) (l : List X) → joined (ls ++ l ∷ []) ≡ joined ls ++ l
unfolding joined
joined-more [] l = append-nil l
joined-more (k ∷ ls) l = ap (λ (x : List _). k ++ x) (joined-more ls l) ∙ sym (append_assoc k (joined ls) l)

module _ (s : Size) (threshold : Float) (r : Arms) (keep : Float) (saved w : List ℕ) (n : ℕ) (es : List Keyed) (l : length es ≡ n)
    (old : take n saved ≡ map (weight_of keyed_weighed) es) (now : listed s n w ≡ map (scaled_by r.shape keep) es) where
  parent_is : (i : ℕ) → i < n → parent_at s w i (get_or saved i 0) ≡ get_or es i (entry_of s [])
  parent_is i h =
      let d = entry_of s [] in
      ap₂ (reweighed keyed_weighed)
      (sym (get_or-take n saved i 0 h) ∙ ap (λ (v : List ℕ). get_or v i 0) old ∙ get_or-mapped (weight_of keyed_weighed) es i d 0 (omega (arith, l)))
      (sym (listed_at s n i w d h) ∙ ap (λ (v : List Keyed). get_or v i d) now ∙ get_or-mapped (scaled_by r.shape keep) es i d d (omega (arith, l)))
      ∙ unscaled r.shape keep (get_or es i d)

  up_to : (i : ℕ) → i ≤ n → branches_up_to s threshold r saved w i ≡ joined (map (branches_by s threshold r) (take i es))
  unfolding branches_up_to joined
  up_to zero h = refl
  up_to (suc i) h =
      ap₂ (λ (x y : List Keyed). x ++ y) (up_to i (omega (arith, h))) (ap (branches_by s threshold r) (parent_is i (omega (arith, h))))
      ∙ sym
      (ap (λ (x : List Keyed). joined (map (branches_by s threshold r) x)) (take-suc es i (entry_of s []) (omega (arith, h, l)))
      ∙ ap joined (map-append (branches_by s threshold r) (take i es) (get_or es i (entry_of s []) ∷ []))
      ∙ joined-more (map (branches_by s threshold r) (take i es)) (branches_by s threshold r (get_or es i (entry_of s []))))

  -- the branches of all parents
  pub all-branches : branches_up_to s threshold r saved w n ≡ joined (map (branches_by s threshold r) es)
  all-branches = up_to n (omega arith) ∙ ap (λ (x : List Keyed). joined (map (branches_by s threshold r) x)) (take_all n es (omega (arith, l)))

pub map_is : {X Y : Type 0} (f g : X → Y) → ((x : X) → f x ≡ g x) → (l : List X) → map f l ≡ map g l
map_is f g h [] = refl
map_is f g h (x ∷ l) = ap₂ (λ (y : _) (k : List _). y ∷ k) (h x) (map_is f g h l)
