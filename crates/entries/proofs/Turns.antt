-- A loop that does g i to entry i, by rising place: after i turns the first i are changed, and no others. Assumes nothing.
use mathlib.Core.Path.{◌≡◌, refl, sym, ap, ◌∙◌}
use mathlib.Core.List.{List, [], ◌∷◌, map}
use Prim.Native.Nat.{ℕ, zero, suc, ◌+◌, ◌≤◌, ◌<◌}
use native.Mathlib.Nat.{not-suc-le-zero, le_of_suc-le-suc}
use native.Mathlib.Numerals.{add-one}
use native.Mathlib.Omega.{arith}
use lib.ListN.{length, get_or, set}
use Rattle.model.specs.Entries.{Keyed, entry_len, words_of, entry_of, listed, with_stretch}
use Rattle.model.specs.declared.Size.{Size}
use Rattle.model.proofs.Entries.{length-listed, listed_at}
use Rattle.model.specs.Sound.{Packed}
use Rattle.model.proofs.Packed.{Fits, entry-words, words-length, lent-listed, lent-packed}
use Rattle.entries.specs.Became.{Became}
use Rattle.entries.specs.Holds.{Holds}
use Rattle.entries.proofs.Slots.{nothing, part, part-is}

-- ---- lists

unfoldable pub changed_below : (ℕ → Keyed → Keyed) → ℕ → List Keyed → List Keyed
changed_below g zero es = es
changed_below g (suc i) [] = []
changed_below g (suc i) (e ∷ es) = g 0 e ∷ changed_below (λ j. g (suc j)) i es

-- the entry whose turn it is stands there as it was
below_at : (g : ℕ → Keyed → Keyed) (i : ℕ) (es : List Keyed) (d : Keyed) → get_or (changed_below g i es) i d ≡ get_or es i d
unfolding changed_below
below_at g zero es d = refl
below_at g (suc i) [] d = refl
below_at g (suc i) (e ∷ es) d = below_at (λ j. g (suc j)) i es d

below_next : (g : ℕ → Keyed → Keyed) (i : ℕ) (es : List Keyed) (d : Keyed) → i < length es → set (changed_below g i es) i (g i (get_or es i d)) ≡ changed_below g (suc i) es
unfolding changed_below
below_next g i [] d h = absurd (not-suc-le-zero h)
below_next g zero (e ∷ es) d h = refl
below_next g (suc i) (e ∷ es) d h = ap (λ (l : List Keyed). g 0 e ∷ l) (below_next (λ j. g (suc j)) i es d (le_of_suc-le-suc h))

-- the same done to each
pub below_all : (f : Keyed → Keyed) (n : ℕ) (es : List Keyed) → length es ≤ n → changed_below (λ i. f) n es ≡ map f es
unfolding changed_below
below_all f zero [] h = refl
below_all f (suc n) [] h = refl
below_all f zero (e ∷ es) h = absurd (not-suc-le-zero h)
below_all f (suc n) (e ∷ es) h = ap (λ (l : List Keyed). f e ∷ l) (below_all f n es (le_of_suc-le-suc h))

-- ---- stores

-- after i turns
pub record Done (s : Size) (n : ℕ) (g : ℕ → Keyed → Keyed) (i : ℕ) (w₀ w : List ℕ) : Type 0 where
  pub packed : Packed s n w
  pub entries : listed s n w ≡ changed_below g i (listed s n w₀)

module _ (s : Size) (n : ℕ) (g : ℕ → Keyed → Keyed) (w₀ : List ℕ) where
  pub begin : Packed s n w₀ → Done s n g 0 w₀ w₀
  unfolding changed_below
  begin h = record { packed = h; entries = refl }

  -- entry i is changed, and no other
  pub next : {w v : List ℕ} (i : ℕ) → i < n → Done s n g i w₀ w → Holds s n (set (listed s n w) i (g i (get_or (listed s n w) i (nothing s)))) v → Done s n g (i + 1) w₀ v
  next {w} {v} i b h t =
      let es = listed s n w₀ in
      rw add-one (record {
        packed = t.packed;
        entries =
            t.entries
            ∙ ap (λ (l : List Keyed). set l i (g i (get_or l i (nothing s)))) h.entries
            ∙ ap (λ (e : Keyed). set (changed_below g i es) i (g i e)) (below_at g i es (nothing s))
            ∙ below_next g i es (nothing s) (omega (arith, length-listed s n w₀));
      })

  -- entry i is lent, and comes back changed
  pub turn : (len : ℕ) → len ≡ entry_len s → (i : ℕ) (w x : List ℕ) → i < n → Done s n g i w₀ w → Became s (g i) (part len i w) x → Done s n g (i + 1) w₀ (with_stretch len i w x)
  turn len e i w x b h t =
      let now : entry_of s x ≡ g i (get_or (listed s n w) i (nothing s)) =
      t.entry ∙ ap (λ (y : List ℕ). g i (entry_of s y)) (part-is s len e i w) ∙ ap (g i) (sym (listed_at s n i w (nothing s) b)) in
      next i b h
      (rw e (record {
        packed = lent-packed s n w h.packed i b x t.long;
        entries = lent-listed s n w h.packed i b x t.long ∙ ap (set (listed s n w) i) now;
      }))

-- words that come back as those of what f makes of the entry
pub became : (s : Size) (f : Keyed → Keyed) {x y : List ℕ} → Fits s (f (entry_of s x)) → y ≡ words_of (f (entry_of s x)) → Became s f x y
became s f {x} {y} h e =
    record { long = ap length e ∙ words-length s (f (entry_of s x)) h; entry = ap (entry_of s) e ∙ entry-words s (f (entry_of s x)) h }
