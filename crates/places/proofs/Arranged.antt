-- The entries picked by an order of places: they stay the same where each place of the order still has its entry, and once every place is settled
-- they are the first of the list. Assumes nothing.
use mathlib.Core.Path.{◌≡◌, refl, sym, ap, ap₂, ◌∙◌}
use mathlib.Core.List.{List, [], ◌∷◌, map}
use Prim.Native.Nat.{ℕ, zero, suc, ◌+◌, ◌≤◌, ◌<◌, suc-le-suc}
use native.Mathlib.Nat.{not-suc-le-zero, le_of_suc-le-suc}
use native.Mathlib.Omega.{arith}
use lib.ListN.{length, take, get_or, set, length-map}
use lib.Seq.{length-take-le, get_or-take, ext_get_or}
use Rattle.model.specs.Entries.{Keyed, entry_of, stretch, listed}
use Rattle.model.specs.declared.Size.{Size}
use Rattle.model.proofs.Lists.{get_or-mapped}
use Rattle.model.proofs.Entries.{length-listed, listed_at}
use Rattle.model.specs.Sound.{Packed}
use Rattle.entries.specs.Exchanged.{exchanged}
use Rattle.places.specs.Places.{picked}
use Rattle.places.specs.Settled.{Settled}
use Rattle.places.proofs.Inverse.{later, exchange-settles, exchange-keeps, copy-settles, copy-keeps}

alike : {X : Type 0} (f g : ℕ → X) (m : ℕ) (a b : List ℕ) → m ≤ length a → m ≤ length b → ((u : ℕ) → u < m → f (get_or a u 0) ≡ g (get_or b u 0)) → map f (take m a) ≡ map g (take m b)
alike f g zero a b h i e = refl
alike f g (suc m) [] b h i e = absurd (not-suc-le-zero h)
alike f g (suc m) (x ∷ a) [] h i e = absurd (not-suc-le-zero i)
alike {X} f g (suc m) (x ∷ a) (y ∷ b) h i e =
    ap₂ (λ (p : X) (l : List X). p ∷ l) (e 0 (omega arith)) (alike f g m a b (le_of_suc-le-suc h) (le_of_suc-le-suc i) (λ u k. e (suc u) (suc-le-suc k)))

-- the number of entries is at most 256
pub at_most : {s : Size} {count : ℕ} {w : List ℕ} → Packed s count w → count ≤ 256
at_most p = omega (arith, p.room, p.sized.capacity.high)

-- each place of the order still has its entry
same-picked : (s : Size) {count m v v' : ℕ} {order holds order' holds' : List ℕ} (w w' : List ℕ) → count ≤ 256 → m ≤ count → Settled count m v order holds → Settled count m v' order' holds'
    → ((u : ℕ) → u < m → get_or (listed s count w') (get_or order' u 0) (entry_of s []) ≡ get_or (listed s count w) (get_or order u 0) (entry_of s []))
    → picked s m order' w' ≡ picked s m order w
unfolding picked
same-picked s {count} {m} {v} {v'} {order} {holds} {order'} {holds'} w w' few fits t t' e =
    alike (λ i. entry_of s (stretch s w' i)) (λ i. entry_of s (stretch s w i)) m order' order (omega (arith, t'.inverse.order_long)) (omega (arith, t.inverse.order_long))
    (λ u h. sym (listed_at s count (get_or order' u 0) w' (entry_of s []) (t'.below u h)) ∙ e u h ∙ listed_at s count (get_or order u 0) w (entry_of s []) (t.below u h))

module _ {s : Size} {count m v : ℕ} {order holds w : List ℕ} (p : Packed s count w) (h : v < m) (fits : m ≤ count) (t : Settled count m v order holds) where
  abbrev here : ℕ
  here = get_or order v 0

  abbrev held : ℕ
  held = get_or holds v 0

  module _ (ne : here ≡ v → ⊥) where
    pub from-later : v < here
    from-later = later (at_most p) fits h t ne

    -- entry v of the order, and the one that stands at place v, change places
    pub by-exchange : {w' : List ℕ} → held < m → Packed s count w' → listed s count w' ≡ exchanged (entry_of s []) v here (listed s count w)
        → Packed s count w' × Settled count m (v + 1) (set (set order v v) held here) (set (set holds v v) here held) × (picked s m (set (set order v v) held here) w' ≡ picked s m order w)
    by-exchange {w'} b k e =
        let t' = exchange-settles (at_most p) fits h t ne b in
        (k, t', same-picked s w w' (at_most p) fits t t' (λ u g. rw e (exchange-keeps (at_most p) fits h t ne b (entry_of s []) (listed s count w) (length-listed s count w) u g)))

    -- place v is free
    pub by_copy : {w' : List ℕ} → m ≤ held → Packed s count w' → listed s count w' ≡ set (listed s count w) v (get_or (listed s count w) here (entry_of s []))
        → Packed s count w' × Settled count m (v + 1) (set order v v) (set (set holds v v) here 256) × (picked s m (set order v v) w' ≡ picked s m order w)
    by_copy {w'} b k e =
        let t' = copy-settles (at_most p) fits h t ne b in
        (k, t', same-picked s w w' (at_most p) fits t t' (λ u g. rw e (copy-keeps (at_most p) fits h t ne b (entry_of s []) (listed s count w) (length-listed s count w) u g)))

-- every place is settled
pub all_settled : {s : Size} {count m v : ℕ} {order holds w : List ℕ} → Packed s count w → m ≤ count → Settled count m v order holds → m ≤ v → take m (listed s count w) ≡ picked s m order w
unfolding picked
all_settled {s} {count} {m} {v} {order} {holds} {w} p fits t h =
    let f : ℕ → Keyed = λ i. entry_of s (stretch s w i) in
    let d : Keyed = entry_of s [] in
    let few : count ≤ 256 = at_most p in
    let long : length (take m (listed s count w)) ≡ m = length-take-le m (listed s count w) (omega (arith, length-listed s count w)) in
    let many : length (take m order) ≡ m = length-take-le m order (omega (arith, t.inverse.order_long)) in
    ext_get_or d (take m (listed s count w)) (map f (take m order)) (long ∙ sym (length-map (take m order) f ∙ many))
    (λ i b.
    let g : i < m = omega (arith, long) in
    get_or-take m (listed s count w) i d g
    ∙ listed_at s count i w d (omega arith)
    ∙ ap f (sym (get_or-take m order i 0 g ∙ t.settled i (omega arith)))
    ∙ sym (get_or-mapped f (take m order) i 0 d (omega (arith, many))))
