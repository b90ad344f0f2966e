-- One entry of a packed store changes where it stands: it is live again, or its weight gains another's; and the key that it has once it is live. Assumes nothing.
use mathlib.Core.Path.{◌≡◌, ap, ap₂, ◌∙◌}
use mathlib.Core.List.{List}
use Prim.Native.Nat.{ℕ, ◌*◌, ◌<◌}
use native.Mathlib.Nat.{add-zero, add-sub_cancel_left}
use native.Mathlib.Omega.{arith}
use lib.Bits.{bit_xor}
use lib.ListN.{length, get_or, set}
use lib.Seq.{get_or-take, get_or-drop}
use Rattle.model.specs.Floats.{float, bits, plus}
use Rattle.model.specs.Entries.{entry_len, words_of, entry_of, stretch, listed, with_stretch}
use Rattle.model.specs.Keys.{usual_salts, stored_key}
use Rattle.model.specs.Changes.{masks_of, changed_keyed}
use Rattle.model.specs.Store.{keyed_weighed, reweighed, gained}
use Rattle.model.specs.declared.BranchMutation.TheVariants.{Loss as loss}
use Rattle.model.specs.declared.Size.{Size}
use Rattle.model.proofs.Xor.{xor_assoc}
use Rattle.model.proofs.Entries.{length-stretch}
use Rattle.model.specs.Sound.{Packed}
use Rattle.model.proofs.Packed.{Fits, entry-words, words-length, within, set-listed, set-packed, lent-listed, lent-packed}
use Rattle.changes.specs.Changes.{loss_change}
use Rattle.changes.specs.declared.Change.{Change}
use Rattle.merging.proofs.Merge.{weight-set}
use Rattle.model.proofs.Packs.{entry-fits}
use Rattle.branch.proofs.Made.{changed-fits}
use Rattle.entries.proofs.Slots.{part}
use Rattle.reset.specs.Return.{live, live_at}

-- ---- the key

-- the mask of a loss does not go by rows
pub loss-delta : (n q : ℕ) (rows : List ℕ) {c : Change} → c ≡ loss_change q → c.delta ≡ masks_of usual_salts n (loss q) rows
unfolding masks_of
loss-delta n q rows e = ap (λ (c : Change). c.delta) e

-- e are the words of the entry at place i
pub live-key-is : (s : Size) (q : ℕ) (w : List ℕ) (i : ℕ) {e : List ℕ} {c : Change} → e ≡ stretch s w i → c ≡ loss_change q
    → bit_xor (bit_xor (get_or e 2 0) (get_or e 3 0)) c.delta ≡ stored_key (live_at s q w i)
unfolding stored_key changed_keyed entry_of
live-key-is s q w i p m =
    let b = entry_of s (stretch s w i) in
    ap₂ (λ (v : List ℕ) (d : ℕ). bit_xor (bit_xor (get_or v 2 0) (get_or v 3 0)) d) p (loss-delta s.n q b.entry.body.rows m)
    ∙ xor_assoc b.word_key b.phase_loss_key (masks_of usual_salts s.n (loss q) b.entry.body.rows)

-- ---- one entry changes

first_word : (s : Size) (w : List ℕ) (i : ℕ) → get_or (stretch s w i) 0 0 ≡ get_or w (i * entry_len s) 0
first_word s w i = let some : 0 < entry_len s = omega arith in rw (get_or-take, get_or-drop, add-zero)

module _ (s : Size) (count : ℕ) (w : List ℕ) (p : Packed s count w) (len : ℕ) (e : len ≡ entry_len s) (i : ℕ) (h : i < count) where
  at_length : length (stretch s w i) ≡ entry_len s
  at_length = length-stretch s w i count (within s count w p) h

  -- live again: its stretch, lent, comes back as the words x
  pub revived : (q : ℕ) (x : List ℕ) → x ≡ words_of (live s q (entry_of s (part len i w)))
      → Packed s count (with_stretch len i w x) × (listed s count (with_stretch len i w x) ≡ set (listed s count w) i (live_at s q w i))
  revived q x m =
      let b = live_at s q w i in
      let fits : Fits s b = changed-fits usual_salts s (loss q) (entry_of s (stretch s w i)) (entry-fits s (stretch s w i) at_length) in
      let slot : part len i w ≡ stretch s w i = rw (add-sub_cancel_left (i * len) len, e) in
      let words : x ≡ words_of b = m ∙ ap (λ (v : List ℕ). words_of (live s q (entry_of s v))) slot in
      let long : length x ≡ entry_len s = ap length words ∙ words-length s b fits in
      rw e (lent-packed s count w p i h x long, lent-listed s count w p i h x long ∙ ap (set (listed s count w) i) (ap (entry_of s) words ∙ entry-words s b fits))

  -- its weight gains that of the entry at place j
  pub gained-at : (j v : ℕ) → v ≡ bits (plus (float (get_or w (i * len) 0)) (float (get_or w (j * len) 0)))
      → Packed s count (set w (i * len) v) × (listed s count (set w (i * len) v) ≡ set (listed s count w) i (gained keyed_weighed (entry_of s (stretch s w j)) (entry_of s (stretch s w i))))
  unfolding gained entry_of
  gained-at j v g =
      let a = entry_of s (stretch s w i) in
      let sum : v ≡ bits (plus (float (get_or (stretch s w i) 0 0)) (float (get_or (stretch s w j) 0 0))) = rw (first_word s w i, first_word s w j) (rw e at g) in
      rw e (
        rw add-zero at (set-packed s count w p i h 0 v (omega arith)),
        rw add-zero at (set-listed s count w p i h 0 v (omega arith))
            ∙ ap (set (listed s count w) i) (weight-set s (stretch s w i) v at_length ∙ ap (λ (u : ℕ). reweighed keyed_weighed u a) sum),
      )
