-- Laws of the entries above a cutoff, moved to the front of a store, and of the weights of the others. Assumes nothing.
use mathlib.Core.Path.{◌≡◌, refl, sym, ap, ◌∙◌}
use mathlib.Core.Bool.{Bool, true, false, cond, not}
use mathlib.Core.List.{List, ◌∷◌}
use Prim.Native.Nat.{ℕ, ◌+◌, ◌*◌, ◌≤◌, ◌<◌}
use native.Mathlib.Omega.{arith}
use lib.Ieee.{Float, lt}
use lib.ListN.{length, take, drop, get_or, set, drop_of_length-le}
use lib.Seq.{drop-set-lt}
use Rattle.model.specs.Lists.{retain}
use Rattle.model.specs.Floats.{float, zero_bits, plus}
use Rattle.model.specs.Entries.{Keyed, entry_len, listed}
use Rattle.model.specs.Store.{keyed_weighed, weight_of, above_cutoff}
use Rattle.model.specs.Sum.{added_to, total, kept, taken_by}
use Rattle.model.specs.declared.Size.{Size}
use Rattle.model.proofs.Entries.{length-listed}
use Rattle.model.specs.Sound.{Packed}
use Rattle.entries.specs.Holds.{Holds}
use Rattle.entries.proofs.Slots.{nothing}
use Rattle.weights.proofs.Lists.{kept_from, next, moved, left_behind, all-passed}
use Rattle.weights.proofs.Weights.{weight-at}

abbrev pub stays : Float → Keyed → Bool
stays cutoff x = above_cutoff cutoff (weight_of keyed_weighed x)

abbrev goes : Float → Keyed → Bool
goes cutoff x = not (stays cutoff x)

-- A loop over the entries of w₀ has passed i of them, kept j and added the others' weights to t, and has w: with what is kept of the rest
-- these are the whole, and so is t with the rest's weights that go.
pub record Keeping (cutoff : Float) (s : Size) (count : ℕ) (w₀ : List ℕ) (j : ℕ) (t : Float) (i : ℕ) (w : List ℕ) : Type 0 where
  pub packed : Packed s count w
  pub entries : kept_from (stays cutoff) j i (listed s count w) ≡ kept keyed_weighed cutoff (listed s count w₀)
  pub taken : added_to keyed_weighed t (retain (goes cutoff) (drop i (listed s count w))) ≡ taken_by keyed_weighed cutoff (listed s count w₀)

module _ {cutoff : Float} {s : Size} {count : ℕ} {w₀ : List ℕ} where
  pub none_passed : Packed s count w₀ → Keeping cutoff s count w₀ 0 (float zero_bits) 0 w₀
  unfolding kept taken_by total
  none_passed p = record { packed = p; entries = refl; taken = refl }

  -- a turn reads the weight x
  module _ {j i len : ℕ} {t x : Float} {w : List ℕ} (k : Keeping cutoff s count w₀ j t i w) (h : i < count) (e : len ≡ entry_len s) (q : x ≡ float (get_or w (i * len) 0)) where
    here : i < length (listed s count w)
    here = omega (arith, length-listed s count w)

    read : float (weight_of keyed_weighed (get_or (listed s count w) i (nothing s))) ≡ x
    read = ap float (weight-at s count i w h ∙ ap (λ (n : ℕ). get_or w (i * n) 0) (sym e)) ∙ sym q

    judged : {b : Bool} → lt cutoff x ≡ b → stays cutoff (get_or (listed s count w) i (nothing s)) ≡ b
    judged o = ap (lt cutoff) read ∙ o

    -- the weights that go from place i on
    rest : (b : Bool) → lt cutoff x ≡ b → retain (goes cutoff) (drop i (listed s count w)) ≡ cond b (retain (goes cutoff) (drop (i + 1) (listed s count w))) (get_or (listed s count w) i (nothing s) ∷ retain (goes cutoff) (drop (i + 1) (listed s count w)))
    rest true o = next (goes cutoff) (listed s count w) i (nothing s) here false (ap not (judged o))
    rest false o = next (goes cutoff) (listed s count w) i (nothing s) here true (ap not (judged o))

    pub one_kept : {w' : List ℕ} → j ≤ i → lt cutoff x ≡ true → Holds s count (set (listed s count w) j (get_or (listed s count w) i (nothing s))) w' → Keeping cutoff s count w₀ (j + 1) t (i + 1) w'
    one_kept g o m =
        let l = listed s count w in
        record {
          packed = m.packed;
          entries = rw m.entries (moved (stays cutoff) l i (nothing s) here j g (judged o)) ∙ k.entries;
          taken =
              rw (m.entries, drop-set-lt (i + 1) l j (get_or l i (nothing s)) (omega arith))
              (ap (added_to keyed_weighed t) (sym (rest true o)) ∙ k.taken);
        }

    pub one-gone : lt cutoff x ≡ false → Keeping cutoff s count w₀ j (plus t x) (i + 1) w
    unfolding added_to
    one-gone o =
        let l = listed s count w in
        record {
          packed = k.packed;
          entries = left_behind (stays cutoff) l i (nothing s) here j (judged o) ∙ k.entries;
          taken =
              ap (λ (y : Float). added_to keyed_weighed (plus t y) (retain (goes cutoff) (drop (i + 1) l))) (sym read)
              ∙ ap (added_to keyed_weighed t) (sym (rest false o))
              ∙ k.taken;
        }

  -- all passed, and the slots past those kept emptied
  module _ {j i : ℕ} {t : Float} {w : List ℕ} (k : Keeping cutoff s count w₀ j t i w) (h : count ≤ i) where
    past : length (listed s count w) ≤ i
    past = omega (arith, length-listed s count w)

    pub all-kept : {v : List ℕ} → Packed s j v → listed s j v ≡ take j (listed s count w) → Holds s j (kept keyed_weighed cutoff (listed s count w₀)) v
    all-kept p e = record { packed = p; entries = e ∙ sym (all-passed (stays cutoff) (listed s count w) i j past) ∙ k.entries }

    pub all_taken : t ≡ taken_by keyed_weighed cutoff (listed s count w₀)
    unfolding added_to retain
    all_taken = rw (drop_of_length-le (listed s count w) past) at k.taken
