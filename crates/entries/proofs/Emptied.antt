-- The first slots of a store, and what is left when the others are emptied. Assumes nothing.
use mathlib.Core.Path.{◌≡◌, sym, ap, ◌∙◌}
use mathlib.Core.Bool.{true}
use mathlib.Core.List.{List, ◌++◌, map, map-append}
use Prim.Native.Nat.{ℕ, zero, suc, ◌+◌, ◌*◌, ◌-◌, ◌≤◌}
use native.Mathlib.Nat.{mul-le-mul_right}
use native.Mathlib.Omega.{arith}
use lib.ListN.{length, take, drop, replicate, length-map, length-replicate}
use lib.Seq.{take_at, drop_at, length-take-le}
use borrow.Rule.Slice.PartMut.{put_mid, mid_of, same_len_mid, Post-is}
use Rattle.model.specs.Lists.{groups, every}
use Rattle.model.specs.Entries.{pack, entry_len, entry_of, listed, past_count}
use Rattle.model.specs.Numbers.{all_zero}
use Rattle.model.specs.declared.Size.{Size}
use Rattle.model.proofs.Lists.{length-groups}
use Rattle.model.proofs.Groups.{groups-add, groups-kept}
use Rattle.model.specs.Sound.{Packed}
use Rattle.model.proofs.Packed.{within, packed-is}

-- TWO STORES THAT HOLD ONE LIST ARE EQUAL
pub same_store : (s : Size) (count : ℕ) (v w : List ℕ) → Packed s count v → Packed s count w → listed s count v ≡ listed s count w → v ≡ w
same_store s count v w h g e = packed-is s count v h ∙ ap (pack s) e ∙ sym (packed-is s count w g)

-- the entries of the first slots are the first of the listed
pub listed-take : (s : Size) (m n : ℕ) (w : List ℕ) → m ≤ n → listed s m w ≡ take m (listed s n w)
unfolding listed
listed-take s m n w h =
    let k = entry_len s in
    let e : n ≡ m + (n - m) = omega arith in
    sym (ap (λ (i : ℕ). take m (map (entry_of s) (groups k i w))) e
    ∙ ap (λ (l : List (List ℕ)). take m (map (entry_of s) l)) (groups-add k m (n - m) w)
    ∙ ap (take m) (map-append (entry_of s) (groups k m w) (groups k (n - m) (drop (m * k) w)))
    ∙ take_at (map (entry_of s) (groups k m w)) _ m (length-map (groups k m w) (entry_of s) ∙ length-groups k m w))

-- ---- emptied

zeros-more : (m : ℕ) (r : List ℕ) → all_zero r ≡ true → all_zero (replicate m 0 ++ r) ≡ true
unfolding all_zero every
zeros-more zero r h = h
zeros-more (suc m) r h = zeros-more m r h

module _ (s : Size) (from count : ℕ) (w z : List ℕ) (h : Packed s count w) (l : from ≤ count) where
  pub cleared-packed : z ≡ replicate (length (mid_of (from * entry_len s) (count * entry_len s - from * entry_len s) w)) 0 → Packed s from (put_mid (from * entry_len s) (count * entry_len s - from * entry_len s) w z)
  unfolding past_count
  cleared-packed e =
      let a = from * entry_len s in
      let n = count * entry_len s - a in
      let b : a ≤ count * entry_len s = mul-le-mul_right (entry_len s) l in
      let i : count * entry_len s ≤ length w = within s count w h in
      record {
        sized = rw (same_len_mid a n w z (ap length e ∙ length-replicate _ 0)) h.sized;
        room = omega (arith, h.room);
        zeros =
            rw (drop_at (take a w) (z ++ drop n (drop a w)) a (length-take-le a w (omega arith)), Post-is a (count * entry_len s) w b, e) (zeros-more (length (mid_of a n w)) _ h.zeros);
      }

  pub cleared-listed : listed s from (put_mid (from * entry_len s) (count * entry_len s - from * entry_len s) w z) ≡ take from (listed s count w)
  unfolding listed
  cleared-listed =
      let b : from * entry_len s ≤ count * entry_len s = mul-le-mul_right (entry_len s) l in
      let i : count * entry_len s ≤ length w = within s count w h in
      ap (map (entry_of s)) (groups-kept (entry_len s) from w _ (omega arith)) ∙ listed-take s from count w l
