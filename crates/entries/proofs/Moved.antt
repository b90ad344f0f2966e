-- A store in which one entry is written over another. Assumes nothing.
use mathlib.Core.Path.{◌≡◌, sym, ap, ◌∙◌}
use mathlib.Core.List.{List, ◌++◌, append_assoc}
use Prim.Native.Nat.{ℕ, ◌+◌, ◌*◌, ◌-◌, ◌≤◌, ◌<◌}
use native.Mathlib.Nat.{add-sub_cancel_left}
use native.Mathlib.Omega.{arith}
use lib.ListN.{take, drop, get_or, set}
use lib.Seq.{set-get_or, paste}
use borrow.Rule.Slice.PartMut.{Post-is}
use Rattle.model.specs.Entries.{entry_len, stretch, listed, with_stretch}
use Rattle.model.specs.declared.Size.{Size}
use Rattle.model.proofs.Entries.{listed_at, length-stretch}
use Rattle.model.specs.Sound.{Packed}
use Rattle.model.proofs.Packed.{within, lent-listed, lent-packed}
use Rattle.entries.specs.Holds.{Holds}
use Rattle.entries.proofs.Slots.{nothing}

-- a stretch copied over another, as if that had been lent
copied_stretch : (len from to : ℕ) (w : List ℕ) → paste w (to * len) (drop (from * len) w) (from * len + len - from * len) ≡ with_stretch len to w (take len (drop (from * len) w))
copied_stretch len from to w =
    let x = take len (drop (from * len) w) in
    rw (add-sub_cancel_left (from * len) len) (
    append_assoc (take (to * len) w) x (drop (to * len + len) w)
    ∙ ap (λ (r : List ℕ). take (to * len) w ++ (x ++ r)) (sym (Post-is (to * len) (to * len + len) w (omega arith)))
    )

-- an entry moved to an earlier place
pub moved-entry : {s : Size} {count len from to : ℕ} {w w' : List ℕ} → Packed s count w → len ≡ entry_len s → from < count → to ≤ from
    → w' ≡ paste w (to * len) (drop (from * len) w) (from * len + len - from * len)
    → Holds s count (set (listed s count w) to (get_or (listed s count w) from (nothing s))) w'
moved-entry {s} {count} {len} {from} {to} {w} {w'} p e h g i =
    let b : to < count = omega arith in
    let x = stretch s w from in
    let n = length-stretch s w from count (within s count w p) h in
    let v : w' ≡ with_stretch (entry_len s) to w x =
    i ∙ copied_stretch len from to w ∙ ap (λ (m : ℕ). with_stretch m to w (take m (drop (from * m) w))) e in
    record {
      packed = rw v (lent-packed s count w p to b x n);
      entries = ap (listed s count) v ∙ lent-listed s count w p to b x n ∙ ap (set (listed s count w) to) (sym (listed_at s count from w (nothing s) h));
    }

-- .. or to its own
pub unmoved-entry : {s : Size} {count from to : ℕ} {w : List ℕ} → Packed s count w → from ≡ to → Holds s count (set (listed s count w) to (get_or (listed s count w) from (nothing s))) w
unmoved-entry {s} {count} {from} {to} {w} p e = record { packed = p; entries = rw e (sym (set-get_or (listed s count w) to (nothing s))) }
