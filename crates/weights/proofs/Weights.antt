-- Laws of the weights in a store's words. Assumes nothing.
use mathlib.Core.Path.{◌≡◌, sym, ap, ◌∙◌}
use mathlib.Core.List.{List, [], ◌∷◌}
use Prim.Native.Nat.{ℕ, ◌+◌, ◌*◌, ◌≤◌, ◌<◌}
use native.Mathlib.Nat.{add-zero, not-suc-le-zero}
use native.Mathlib.Numerals.{add-one}
use native.Mathlib.Omega.{arith}
use lib.Ieee.{Float}
use lib.ListN.{length, drop, get_or, set, drop_of_length-le}
use lib.Seq.{drop-cons, drop-set-lt, get_or-take, get_or-drop}
use Rattle.model.specs.Floats.{float, bits, plus, over}
use Rattle.model.specs.Entries.{Keyed, head_len, coefs_len, entry_len, entry_of, stretch, listed}
use Rattle.model.specs.Store.{keyed_weighed, weight_of, reweighed}
use Rattle.model.specs.Sum.{added_to, divided_by}
use Rattle.model.specs.declared.Size.{Size}
use Rattle.model.proofs.Entries.{length-listed, listed_at, length-stretch}
use Rattle.model.specs.Sound.{Packed}
use Rattle.model.proofs.Packed.{within, set-listed, set-packed}
use Rattle.entries.specs.Holds.{Holds}
use Rattle.entries.proofs.Slots.{nothing}
use Rattle.entries.proofs.Turns.{Done, next}

-- another weight is another first word
pub reweighed-words : (s : Size) (e : List ℕ) (v : ℕ) → 0 < length e → entry_of s (set e 0 v) ≡ reweighed keyed_weighed v (entry_of s e)
unfolding entry_of reweighed
reweighed-words s [] v h = absurd (not-suc-le-zero h)
reweighed-words s (a ∷ r) v h = rw (drop-set-lt (head_len + coefs_len s) (a ∷ r) 0 v (omega arith))

module _ (s : Size) (count i : ℕ) (w : List ℕ) (h : i < count) where
  abbrev l : List Keyed
  l = listed s count w

  here : i < length l
  here = omega (arith, length-listed s count w)

  -- an entry's weight is its first word
  pub weight-at : weight_of keyed_weighed (get_or l i (nothing s)) ≡ get_or w (i * entry_len s) 0
  unfolding entry_of
  weight-at =
      ap (weight_of keyed_weighed) (listed_at s count i w (nothing s) h)
      ∙ get_or-take (entry_len s) (drop (i * entry_len s) w) 0 0 (omega arith)
      ∙ get_or-drop (i * entry_len s) w 0 0
      ∙ ap (λ (k : ℕ). get_or w k 0) (add-zero (i * entry_len s))

  -- a weight written
  pub weight-written : Packed s count w → (v : ℕ) → Holds s count (set l i (reweighed keyed_weighed v (get_or l i (nothing s)))) (set w (i * entry_len s) v)
  weight-written p v =
      let g : 0 < length (stretch s w i) = omega (arith, length-stretch s w i count (within s count w p) h) in
      record {
        packed = rw add-zero at (set-packed s count w p i h 0 v (omega arith));
        entries =
            ap (λ (k : ℕ). listed s count (set w k v)) (sym (add-zero (i * entry_len s)))
            ∙ set-listed s count w p i h 0 v (omega arith)
            ∙ ap (set l i) (reweighed-words s (stretch s w i) v g ∙ ap (reweighed keyed_weighed v) (sym (listed_at s count i w (nothing s) h)));
      }

  -- a turn of the sum
  pub added-step : (t : Float) → added_to keyed_weighed (plus t (float (get_or w (i * entry_len s) 0))) (drop (i + 1) l) ≡ added_to keyed_weighed t (drop i l)
  unfolding added_to
  added-step t = rw (← weight-at, add-one, drop-cons l i (nothing s) here)

pub added-all : (s : Size) (count i : ℕ) (w : List ℕ) (t : Float) → count ≤ i → added_to keyed_weighed t (drop i (listed s count w)) ≡ t
unfolding added_to
added-all s count i w t h =
    let g : length (listed s count w) ≤ i = omega (arith, length-listed s count w) in
    rw (drop_of_length-le (listed s count w) g)

-- a turn of the division
pub divided : (by : Float) {s : Size} {count i : ℕ} {w₀ w : List ℕ} → Done s count (λ k. divided_by keyed_weighed by) i w₀ w → i < count
    → Done s count (λ k. divided_by keyed_weighed by) (i + 1) w₀ (set w (i * entry_len s) (bits (over (float (get_or w (i * entry_len s) 0)) by)))
unfolding divided_by
divided by {s} {count} {i} {w₀} {w} d h =
    let l = listed s count w in
    let u = weight-written s count i w h d.packed (bits (over (float (get_or w (i * entry_len s) 0)) by)) in
    next s count (λ k. divided_by keyed_weighed by) w₀ i h d
    record {
      packed = u.packed;
      entries = u.entries ∙ ap (λ (v : ℕ). set l i (reweighed keyed_weighed (bits (over (float v) by)) (get_or l i (nothing s)))) (sym (weight-at s count i w h));
    }
