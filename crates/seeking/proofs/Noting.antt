-- Keys noted one after the other, and what the table then says. Assumes nothing.
use mathlib.Core.Path.{◌≡◌, refl, sym, ap, ◌∙◌}
use mathlib.Core.List.{List, [], ◌∷◌, ◌++◌}
use mathlib.Core.Logic.{⊎_elim}
use Prim.Native.Nat.{ℕ, zero, suc, ◌+◌, ◌≤◌, ◌<◌}
use native.Mathlib.Nat.{eq-or-lt_of_le, le_trans, le_of_suc-le-suc}
use native.Mathlib.Omega.{arith}
use lib.Bits.{bit_xor}
use lib.ListN.{length, get_or, set, length-set, length-append, get_or-append}
use lib.Seq.{get_or-set_same, get_or-set_other, get_or_at, ext_get_or}
use Rattle.model.specs.Entries.{Keyed, entry_of, stretch, listed}
use Rattle.model.specs.Keys.{stored_key}
use Rattle.model.specs.declared.Size.{Size}
use Rattle.model.proofs.Entries.{length-listed, listed_at}
use Rattle.model.specs.Sound.{Packed}
use Rattle.entries.specs.Within.{Within}
use Rattle.seeking.specs.Noted.{gathered, slot_of, Lowered, Noted}

-- n and k of a packed store are within their limits
pub packed-within : {s : Size} {count : ℕ} {w : List ℕ} → Packed s count w → Within s
packed-within p = record { qubits = p.sized.qubits.high; coefficients = p.sized.coefficients.high }

-- ---- a place that is given, or not

pub given : (l : List ℕ) (i d e : ℕ) → i < length l → get_or l i d ≡ get_or l i e
given [] i d e h = absurd (omega arith)
given (x ∷ l) zero d e h = refl
given (x ∷ l) (suc i) d e h = given l i d e (le_of_suc-le-suc h)

-- ---- the keys

-- an entry's words 2 and 3 are the halves of its key
pub key-words : (s : Size) (e : List ℕ) → bit_xor (get_or e 2 0) (get_or e 3 0) ≡ stored_key (entry_of s e)
unfolding stored_key entry_of
key-words s e = refl

pub none-noted : (at : ℕ → Keyed) (keys firsts : List ℕ) → length keys ≡ 256 → length firsts ≡ 4096 → Noted 0 at keys firsts
none-noted at keys firsts k f = record { keys_long = k; firsts_long = f; kept = λ i h. absurd (omega arith); low = λ i h. absurd (omega arith) }

-- the entries' keys stay
abbrev pub SameKeys : ℕ → (at at' : ℕ → Keyed) → Type 0
SameKeys count at at' = (i : ℕ) → i < count → stored_key (at' i) ≡ stored_key (at i)

module _ {count : ℕ} (at at' : ℕ → Keyed) {keys firsts : List ℕ} (n : Noted count at keys firsts) (e : SameKeys count at at') where
  pub still_noted : Noted count at' keys firsts
  still_noted = record { keys_long = n.keys_long; firsts_long = n.firsts_long; kept = λ i h. n.kept i h ∙ sym (e i h); low = n.low }

  -- one entry more
  pub one-noted : {key : ℕ} {keys' firsts' : List ℕ} → count < 256 → key ≡ stored_key (at' count) → keys' ≡ set keys count key
      → Lowered (slot_of key) count firsts firsts' → Noted (count + 1) at' keys' firsts'
  one-noted {key} {keys'} {firsts'} b k f l =
      let new : get_or keys' count 0 ≡ key = ap (λ (x : List ℕ). get_or x count 0) f ∙ get_or-set_same keys count key 0 (omega (arith, n.keys_long)) in
      let old : (i : ℕ) → i < count → get_or keys' i 0 ≡ get_or keys i 0 =
      λ i h. ap (λ (x : List ℕ). get_or x i 0) f ∙ get_or-set_other keys count i key 0 (λ d. absurd (omega arith)) in
      record {
        keys_long = ap length f ∙ length-set keys count key ∙ n.keys_long;
        firsts_long = l.long;
        kept = λ i h. ⊎_elim (λ (d : i ≡ count). rw d (new ∙ k)) (λ (h : i < count). old i h ∙ n.kept i h ∙ sym (e i h)) (eq-or-lt_of_le (omega arith));
        low = λ i h.
            ⊎_elim
            (λ (d : i ≡ count). rw (d, new) l.here)
            (λ (h : i < count). le_trans (l.others (slot_of (get_or keys' i 0))) (rw (old i h) (n.low i h)))
            (eq-or-lt_of_le (omega arith));
      }

-- an entry with a key stands no lower than the table says
pub stands-past : {count : ℕ} (at : ℕ → Keyed) {keys firsts : List ℕ} → Noted count at keys firsts → (key i : ℕ) → i < count → stored_key (at i) ≡ key
    → get_or firsts (slot_of key) 0 ≤ i
stands-past at n key i h e = rw (sym (n.kept i h ∙ e)) (n.low i h)

-- ---- the list of the entries

pub length-gathered : (count : ℕ) (at : ℕ → Keyed) → length (gathered count at) ≡ count
unfolding gathered
length-gathered zero at = refl
length-gathered (suc m) at = length-append (gathered m at) (at m ∷ []) ∙ omega (arith, length-gathered m at)

pub gathered-at : (count : ℕ) (at : ℕ → Keyed) (i : ℕ) (d : Keyed) → i < count → get_or (gathered count at) i d ≡ at i
unfolding gathered
gathered-at zero at i d h = absurd (omega arith)
gathered-at (suc m) at i d h =
    ⊎_elim
    (λ (e : i ≡ m). ap (get_or (gathered m at ++ at m ∷ []) i) {x = d} {y = d} refl ∙ get_or_at (gathered m at) (at m) [] d i (length-gathered m at ∙ sym e) ∙ ap at (sym e))
    (λ (l : i < m). get_or-append (gathered m at) (at m ∷ []) d i (omega (arith, length-gathered m at)) ∙ gathered-at m at i d l)
    (eq-or-lt_of_le (omega arith))

-- those that the store lists
pub gathered-listed : (s : Size) (count : ℕ) (w : List ℕ) → gathered count (λ i. entry_of s (stretch s w i)) ≡ listed s count w
gathered-listed s count w =
    ext_get_or (entry_of s []) (gathered count (λ i. entry_of s (stretch s w i))) (listed s count w) (length-gathered count _ ∙ sym (length-listed s count w))
    (λ i h. let l : i < count = omega (arith, h, length-gathered count (λ i. entry_of s (stretch s w i))) in gathered-at count _ i (entry_of s []) l ∙ sym (listed_at s count i w (entry_of s []) l))
