-- Entries that leave a list given by places, from the highest down: where one leaves, the last place takes its turn. Assumes nothing.
use mathlib.Core.Path.{◌≡◌, sym, ap, ◌∙◌}
use mathlib.Core.Bool.{Bool, true, false, cond}
use mathlib.Core.List.{List, [], ◌∷◌, ◌++◌, map}
use Prim.Native.Nat.{ℕ, suc, ◌-◌, ◌≤◌, ◌<◌}
use native.Mathlib.Omega.{arith}
use lib.ListN.{length, take, get_or, set, length-map}
use lib.Seq.{drop-cons, take-set-lt, take-take, get_or-take, length-take-le}
use Rattle.model.specs.Lists.{retain, swap_remove}
use Rattle.model.specs.Store.{Split}
use Rattle.model.specs.Reset.{leaving_at, left_at, drained}
use Rattle.model.proofs.Lists.{get_or-mapped}
use Rattle.model.proofs.Merging.{map-take}
use Rattle.entries.proofs.Exchange.{map-set}

module _ {Y : Type 0} (p : Y → Bool) where
  -- what the definition makes of the one that leaves, if one does
  abbrev parted_by : ℕ → List Y → List Y → Split Y
  parted_by i l out = record { stay = (drained p i (left_at i out l)).stay; branches = out ++ (drained p i (left_at i out l)).branches }

  module _ (d : Y) (i : ℕ) (l : List Y) (h : i < length l) where
    looked : (b : Bool) → p (get_or l i d) ≡ b → leaving_at p i l ≡ cond b (get_or l i d ∷ []) []
    unfolding leaving_at retain
    looked b e = ap (λ (m : List Y). retain p (take 1 m)) (drop-cons l i d h) ∙ ap (λ (c : Bool). cond c (get_or l i d ∷ []) []) e

    one_out : p (get_or l i d) ≡ true → drained p (suc i) l ≡ parted_by i l (get_or l i d ∷ [])
    unfolding drained
    one_out e = ap (parted_by i l) (looked true e)

    none_out : p (get_or l i d) ≡ false → drained p (suc i) l ≡ drained p i l
    unfolding drained left_at
    none_out e = ap (parted_by i l) (looked false e)

  -- ---- f gives what stands at a place; the first places of l are the list

  module _ {X : Type 0} (f : X → Y) (d : X) where
    abbrev pub found : ℕ → List X → List Y
    found m l = map f (take m l)

    found-long : (m : ℕ) (l : List X) → m ≤ length l → length (found m l) ≡ m
    found-long m l h = length-map (take m l) f ∙ length-take-le m l h

    found_at : (m i : ℕ) (l : List X) (y : Y) → i < m → m ≤ length l → get_or (found m l) i y ≡ f (get_or l i d)
    found_at m i l y h g = get_or-mapped f (take m l) i d y (omega (arith, length-take-le m l g)) ∙ ap f (get_or-take m l i d h)

    -- one that stays
    pub found-stays : (i m : ℕ) (l : List X) → i < m → m ≤ length l → p (f (get_or l i d)) ≡ false → drained p (suc i) (found m l) ≡ drained p i (found m l)
    found-stays i m l h g e = none_out (f d) i (found m l) (omega (arith, found-long m l g)) (ap p (found_at m i l (f d) h g) ∙ e)

    module _ (i m : ℕ) (l : List X) (h : i ≤ m) (g : m < length l) where
      -- `swap_remove`: the last place takes its turn
      removed : (y : Y) → swap_remove y i (found (suc m) l) ≡ found m (set l i (get_or l m d))
      unfolding swap_remove
      removed y =
          let cur = found (suc m) l in
          let v = get_or l m d in
          let k : length cur - 1 ≡ m = omega (arith, found-long (suc m) l g) in
          ap (λ (n : ℕ). take n (set cur i (get_or cur n y))) k
          ∙ ap (λ (x : Y). take m (set cur i x)) (found_at (suc m) m l y (omega arith) g)
          ∙ ap (take m) (sym (map-set f (take (suc m) l) i v))
          ∙ sym (map-take f m (set (take (suc m) l) i v))
          ∙ ap (λ (r : List X). map f (take m r)) (sym (take-set-lt (suc m) l i v (omega arith)))
          ∙ ap (map f) (take-take m (suc m) (set l i v) (omega arith))

      -- one that leaves
      pub found-leaves : p (f (get_or l i d)) ≡ true
          → drained p (suc i) (found (suc m) l)
          ≡ record { stay = (drained p i (found m (set l i (get_or l m d)))).stay; branches = f (get_or l i d) ∷ (drained p i (found m (set l i (get_or l m d)))).branches }
      unfolding left_at
      found-leaves e =
          let cur = found (suc m) l in
          let x = f (get_or l i d) in
          let there : get_or cur i (f d) ≡ x = found_at (suc m) i l (f d) (omega arith) g in
          one_out (f d) i cur (omega (arith, found-long (suc m) l g)) (ap p there ∙ e)
          ∙ ap (λ (y : Y). parted_by i cur (y ∷ [])) there
          ∙ ap (λ (r : List Y). record { stay = (drained p i r).stay; branches = x ∷ (drained p i r).branches }) (removed x)
