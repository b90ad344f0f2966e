-- The slots of a store: where they end, and the stretch of one. Assumes nothing.
use mathlib.Core.Path.{◌≡◌, sym, ap, ◌∙◌}
use mathlib.Core.List.{List, []}
use Prim.Native.Nat.{ℕ, ◌+◌, ◌*◌, ◌-◌, ◌≤◌, ◌<◌}
use native.Mathlib.Nat.{add-sub_cancel_left, mul-le-mul_right}
use native.Mathlib.Omega.{arith}
use lib.ListN.{length}
use borrow.Rule.Slice.PartMut.{mid_of}
use Rattle.model.specs.Entries.{Keyed, entry_len, entry_of, stretch}
use Rattle.model.specs.declared.Size.{Size}
use Rattle.model.proofs.Groups.{stride-le}
use Rattle.model.proofs.Entries.{length-stretch}
use Rattle.model.specs.Sound.{Packed, Sized}
use Rattle.entries.specs.Within.{Within}

-- what the limits leave of a size
pub limits : (s : Size) (len : ℕ) → Sized s len → Within s
limits s len h = record { qubits = h.qubits.high; coefficients = h.coefficients.high }

pub in-limits : {s : Size} {count : ℕ} {w : List ℕ} → Packed s count w → Within s
in-limits {s} {count} {w} p = limits s (length w) p.sized

-- packed stores of one size are as long
pub as_long : {s : Size} {m n : ℕ} {v w : List ℕ} → Packed s m v → Packed s n w → length v ≡ length w
as_long p q = p.sized.words ∙ sym q.sized.words

-- any entry: what stands past the listed ones
abbrev pub nothing : Size → Keyed
nothing s = entry_of s []

-- the first n slots, and each of them, end within the store
module _ (s : Size) (len words n : ℕ) (h : Sized s words) (e : len ≡ entry_len s) (l : n ≤ s.capacity) where
  pub slots_end : n * len ≤ words
  slots_end = rw e (omega (arith, mul-le-mul_right (entry_len s) l, h.words))

  pub slot-end : (i : ℕ) → i < n → i * len + len ≤ words
  slot-end i b = omega (arith, stride-le len i n b, slots_end)

-- the first word of a listed entry stands in the store
pub first-within : {s : Size} {count i len : ℕ} {w : List ℕ} → Packed s count w → len ≡ entry_len s → i < count → i * len < length w
first-within {s} {count} {i} {len} {w} p e h = omega (arith, slot-end s len (length w) count p.sized e p.room i h, e)

-- the stretch of entry i as it is lent, `&mut store[at..end]`
abbrev pub part : ℕ → ℕ → List ℕ → List ℕ
part len i w = mid_of (i * len) (i * len + len - i * len) w

module _ (s : Size) (len : ℕ) (e : len ≡ entry_len s) where
  pub part-is : (i : ℕ) (w : List ℕ) → part len i w ≡ stretch s w i
  part-is i w = rw (add-sub_cancel_left (i * len) len, e)

  pub part_length : (i n : ℕ) (w : List ℕ) → n * len ≤ length w → i < n → length (part len i w) ≡ entry_len s
  part_length i n w p h = ap length (part-is i w) ∙ length-stretch s w i n (rw e at p) h
