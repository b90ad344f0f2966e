-- A walk from the highest place down, which takes out the places of lost entries: with what is to come, its two lists are the whole. Assumes nothing.
use mathlib.Core.Path.{◌≡◌, sym, ap, ap₂, ◌∙◌}
use mathlib.Core.Bool.{true, false}
use mathlib.Core.List.{List, [], ◌∷◌, ◌++◌, map, map-append, append_assoc, append-nil}
use Prim.Native.Nat.{ℕ, suc, ◌+◌, ◌*◌, ◌-◌, ◌≤◌, ◌<◌}
use native.Mathlib.Nat.{le_refl}
use native.Mathlib.Numerals.{add-one}
use native.Mathlib.Omega.{arith}
use lib.Dec.{eqb}
use lib.ListN.{length, take, get_or, set, length-set, length-map}
use lib.Seq.{take-suc-set, get_or-take, get_or-set_other, length-take-le, ext_get_or}
use Rattle.model.specs.Entries.{Keyed, entry_len, entry_of, stretch, listed}
use Rattle.model.specs.Keys.{bit}
use Rattle.model.specs.Store.{Split}
use Rattle.model.specs.Reset.{drained}
use Rattle.model.specs.declared.Size.{Size}
use Rattle.model.proofs.Lists.{get_or-mapped}
use Rattle.model.proofs.Entries.{length-listed, listed_at, loss-word}
use Rattle.places.specs.Leaving.{lost_at, leaving}
use Rattle.places.specs.Places.{picked, Distinct, Apart, Left}
use Rattle.places.proofs.Distinct.{each_more, one_more, each-without, one-removed}
use Rattle.places.proofs.Drained.{found-stays, found-leaves}

-- the entry at place i
abbrev pub entry_at : Size → List ℕ → ℕ → Keyed
entry_at s w i = entry_of s (stretch s w i)

-- the test of its bit q
pub tested : (s : Size) (q len i : ℕ) (w : List ℕ) → len ≡ entry_len s → lost_at q (entry_at s w i) ≡ eqb (bit q (get_or w (i * len + 1) 0)) 1
tested s q len i w e = ap (λ (v : ℕ). eqb (bit q v) 1) (sym (loss-word s len i w e))

-- Places i and up are done: `stay` are left in `order`, and `out` in `left`
pub record Walked (s : Size) (count q : ℕ) (w : List ℕ) (i stay out : ℕ) (order left : List ℕ) : Type 0 where
  pub ahead : i ≤ stay
  pub all : stay + out ≡ count
  pub few : count ≤ 256
  pub order_long : length order ≡ 256
  pub left_long : length left ≡ 256
  pub ins : (drained (lost_at q) i (picked s stay order w)).stay ≡ (leaving q (listed s count w)).stay
  pub outs : picked s out left w ++ (drained (lost_at q) i (picked s stay order w)).branches ≡ (leaving q (listed s count w)).branches
  pub untouched : (u : ℕ) → u < i → get_or order u 0 ≡ u
  pub above : (k : ℕ) → k < out → i ≤ get_or left k 0
  pub listed_once : Distinct count stay order
  pub left_once : Distinct count out left
  pub apart : Apart stay 0 out order left

module _ (s : Size) (count q : ℕ) (w : List ℕ) where
  -- every place in its turn: the entries that are listed
  all-picked : (order : List ℕ) → count ≤ length order → ((u : ℕ) → u < count → get_or order u 0 ≡ u) → picked s count order w ≡ listed s count w
  unfolding picked
  all-picked order h t =
      let d = entry_of s [] in
      let long : length (map (entry_at s w) (take count order)) ≡ count = length-map (take count order) (entry_at s w) ∙ length-take-le count order h in
      ext_get_or d (map (entry_at s w) (take count order)) (listed s count w) (long ∙ sym (length-listed s count w))
      (λ i b.
      let c : i < count = omega (arith, long) in
      get_or-mapped (entry_at s w) (take count order) i 0 d (omega (arith, length-take-le count order h))
      ∙ ap (entry_at s w) (get_or-take count order i 0 c ∙ t i c)
      ∙ sym (listed_at s count i w d c))

  pub none-walked : (order left : List ℕ) → count ≤ 256 → length order ≡ 256 → length left ≡ 256 → ((u : ℕ) → u < count → get_or order u 0 ≡ u) → Walked s count q w count count 0 order left
  unfolding picked
  none-walked order left b o l t =
      let e : picked s count order w ≡ listed s count w = all-picked order (omega arith) t in
      let f : drained (lost_at q) count (picked s count order w) ≡ leaving q (listed s count w) =
      ap₂ (λ (n : ℕ) (es : List Keyed). drained (lost_at q) n es) (sym (length-listed s count w)) e in
      record {
        ahead = le_refl count;
        all = omega arith;
        few = b;
        order_long = o;
        left_long = l;
        ins = ap (λ (x : Split Keyed). x.stay) f;
        outs = ap (λ (x : Split Keyed). x.branches) f;
        untouched = t;
        above = λ k h. absurd (omega arith);
        listed_once = record { below = λ u h. omega (arith, t u h); once = λ u v h k e. omega (arith, t u h, t v k) };
        left_once = record { below = λ u h. absurd (omega arith); once = λ u v h k e. absurd (omega arith) };
        apart = λ u k h z n e. absurd (omega arith);
      }

  module _ (out : ℕ) (order left : List ℕ) where
    -- the entry at the place below is live
    pub one_kept : (i stay j : ℕ) → i ≡ suc j → Walked s count q w i stay out order left → lost_at q (entry_at s w j) ≡ false → Walked s count q w j stay out order left
    unfolding picked
    one_kept i stay j o y b =
        let t = rw o at y in
        let f : drained (lost_at q) (suc j) (picked s stay order w) ≡ drained (lost_at q) j (picked s stay order w) =
        found-stays (lost_at q) (entry_at s w) 0 j stay order t.ahead (omega (arith, t.all, t.few, t.order_long)) (ap (λ (u : ℕ). lost_at q (entry_at s w u)) (t.untouched j (le_refl (suc j))) ∙ b) in
        record {
          ahead = omega (arith, t.ahead);
          all = t.all;
          few = t.few;
          order_long = t.order_long;
          left_long = t.left_long;
          ins = ap (λ (x : Split Keyed). x.stay) (sym f) ∙ t.ins;
          outs = ap (λ (x : Split Keyed). picked s out left w ++ x.branches) (sym f) ∙ t.outs;
          untouched = λ u h. t.untouched u (omega arith);
          above = λ k h. omega (arith, t.above k h);
          listed_once = t.listed_once;
          left_once = t.left_once;
          apart = t.apart;
        }

    -- or lost
    pub one_left : (i stay j m : ℕ) → i ≡ suc j → stay ≡ suc m → Walked s count q w i stay out order left → lost_at q (entry_at s w j) ≡ true
        → Walked s count q w j m (out + 1) (set order j (get_or order m 0)) (set left out j)
    unfolding picked
    one_left i stay j m o p v b =
        let t = rw (o, p) at v in
        let h : j ≤ m = omega (arith, t.ahead) in
        let g : m < length order = omega (arith, t.all, t.few, t.order_long) in
        let z : out < length left = omega (arith, t.all, t.few, t.left_long) in
        let c : j < length order = omega arith in
        let here : get_or order j 0 ≡ j = t.untouched j (le_refl (suc j)) in
        let rest = drained (lost_at q) j (picked s m (set order j (get_or order m 0)) w) in
        let f : drained (lost_at q) (suc j) (picked s (suc m) order w) ≡ record { stay = rest.stay; branches = entry_at s w j ∷ rest.branches } =
        found-leaves (lost_at q) (entry_at s w) 0 j m order h g (ap (λ (u : ℕ). lost_at q (entry_at s w u)) here ∙ b)
        ∙ ap (λ (u : ℕ). record { stay = rest.stay; branches = entry_at s w u ∷ rest.branches }) here in
        let e : picked s (out + 1) (set left out j) w ≡ picked s out left w ++ entry_at s w j ∷ [] =
        ap (λ (n : ℕ). map (entry_at s w) (take n (set left out j))) (add-one out)
        ∙ ap (map (entry_at s w)) (take-suc-set left out j z)
        ∙ map-append (entry_at s w) (take out left) (j ∷ []) in
        record {
          ahead = h;
          all = omega (arith, t.all);
          few = t.few;
          order_long = length-set order j (get_or order m 0) ∙ t.order_long;
          left_long = length-set left out j ∙ t.left_long;
          ins = ap (λ (x : Split Keyed). x.stay) (sym f) ∙ t.ins;
          outs =
              ap (λ (r : List Keyed). r ++ rest.branches) e
              ∙ append_assoc (picked s out left w) (entry_at s w j ∷ []) rest.branches
              ∙ ap (λ (x : Split Keyed). picked s out left w ++ x.branches) (sym f)
              ∙ t.outs;
          untouched = λ u k. get_or-set_other order j u (get_or order m 0) 0 (λ (y : u ≡ j). omega arith) ∙ t.untouched u (omega arith);
          above = each_more out j left z (λ (y : ℕ). j ≤ y) (λ k n. omega (arith, t.above k n)) (le_refl j);
          listed_once = one-removed j m order c count t.listed_once;
          left_once = one_more out j left z count (omega (arith, t.all)) (λ k n y. omega (arith, t.above k n)) t.left_once;
          apart =
              λ u k n y x.
              each_more out j left z (λ (v : ℕ). get_or (set order j (get_or order m 0)) u 0 ≡ v → ⊥)
              (λ i r. each-without j m order c (λ (v : ℕ). v ≡ get_or left i 0 → ⊥) (λ v a d. t.apart v i a (omega arith) r) u n)
              (each-without j m order c (λ (v : ℕ). v ≡ j → ⊥) (λ v a d o. d (t.listed_once.once v j a (omega arith) (o ∙ sym here))) u n)
              k
              x;
        }

    -- all places done
    pub all-walked : (i stay : ℕ) → i ≡ 0 → Walked s count q w i stay out order left → Left s count q w order left stay
    unfolding drained
    all-walked i stay o y =
        let t = rw o at y in
        let e : out ≡ count - stay = omega (arith, t.all) in
        record {
          within = omega (arith, t.all);
          order_long = t.order_long;
          left_long = t.left_long;
          ins = t.ins;
          outs = ap (λ (n : ℕ). picked s n left w) (sym e) ∙ sym (append-nil (picked s out left w)) ∙ t.outs;
          listed_once = t.listed_once;
          left_once = rw e at t.left_once;
          apart = rw e at t.apart;
        }
