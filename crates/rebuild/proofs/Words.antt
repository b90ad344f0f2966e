-- The four words at the head of an entry that can be read and written by their place. Assumes nothing.
use mathlib.Core.Path.{◌≡◌, refl, sym, ap, ap₂, ◌∙◌}
use mathlib.Core.List.{List, [], ◌∷◌, ◌++◌, map, map-append}
use Prim.Native.Nat.{ℕ, zero, suc, ◌+◌, ◌*◌, ◌≤◌, ◌<◌}
use native.Mathlib.Numerals.{add-one}
use native.Mathlib.Omega.{arith}
use native.Mathlib.Nat.{suc-mul}
use lib.ListN.{length, take, drop, get_or, set, length-set, length-drop}
use lib.Seq.{drop-set-lt, take-suc-set, get_or-take, get_or-drop, length-take-le}
use Rattle.model.specs.Lists.{groups}
use Rattle.model.specs.Entries.{head_len, coefs_len, entry_len, entry_of, listed}
use Rattle.model.specs.Store.{reweighed}
use Rattle.model.specs.declared.Size.{Size}
use Rattle.model.proofs.Groups.{groups-add}
use Rattle.model.proofs.Packed.{words-entry}
use Rattle.entries.specs.Became.{Became}
use Rattle.rebuild.specs.Saved.{word_at, with_word, with_loss, with_word_key, with_phase_loss_key}

-- a word written, which the rows are behind
put-field : (s : Size) (j v a b c d f : ℕ) (r : List ℕ) → j < 4
    → drop (head_len + coefs_len s) (set (a ∷ b ∷ c ∷ d ∷ f ∷ r) j v) ≡ drop (head_len + coefs_len s) (a ∷ b ∷ c ∷ d ∷ f ∷ r)
    → entry_of s (set (a ∷ b ∷ c ∷ d ∷ f ∷ r) j v) ≡ with_word j v (entry_of s (a ∷ b ∷ c ∷ d ∷ f ∷ r))
unfolding entry_of with_word with_loss with_word_key with_phase_loss_key reweighed
put-field s zero v a b c d f r h e = rw e
put-field s (suc zero) v a b c d f r h e = rw e
put-field s (suc (suc zero)) v a b c d f r h e = rw e
put-field s (suc (suc (suc zero))) v a b c d f r h e = rw e
put-field s (suc (suc (suc (suc j)))) v a b c d f r h e = absurd (omega arith)

put-entry : (s : Size) (j v : ℕ) (x : List ℕ) → length x ≡ entry_len s → j < 4 → entry_of s (set x j v) ≡ with_word j v (entry_of s x)
put-entry s j v [] l h = absurd (omega arith)
put-entry s j v (a ∷ []) l h = absurd (omega arith)
put-entry s j v (a ∷ b ∷ []) l h = absurd (omega arith)
put-entry s j v (a ∷ b ∷ c ∷ []) l h = absurd (omega arith)
put-entry s j v (a ∷ b ∷ c ∷ d ∷ []) l h = absurd (omega arith)
put-entry s j v (a ∷ b ∷ c ∷ d ∷ f ∷ r) l h = put-field s j v a b c d f r h (drop-set-lt (head_len + coefs_len s) (a ∷ b ∷ c ∷ d ∷ f ∷ r) j v (omega arith))

pub put : (s : Size) (j v : ℕ) (x : List ℕ) → length x ≡ entry_len s → j < 4 → Became s (with_word j v) x (set x j v)
put s j v x l h = record { long = length-set x j v ∙ l; entry = put-entry s j v x l h }

-- ---- one word of each entry: `saved` holds those of the first i

unfoldable pub column : (j len n : ℕ) → List ℕ → List ℕ
column j len n w = map (λ x. get_or x j 0) (groups len n w)

pub column-none : (j len : ℕ) (w saved : List ℕ) → take 0 saved ≡ column j len 0 w
unfolding column groups
column-none j len w saved = refl

pub column-next : (j len i : ℕ) (w saved : List ℕ) → i < length saved → j < len → take i saved ≡ column j len i w → take (i + 1) (set saved i (get_or w (i * len + j) 0)) ≡ column j len (i + 1) w
unfolding column groups
column-next j len i w saved h g e =
    let f : List ℕ → ℕ = λ x. get_or x j 0 in
    ap (λ (m : ℕ). take m (set saved i (get_or w (i * len + j) 0))) (add-one i)
    ∙ take-suc-set saved i _ h
    ∙ ap₂ (λ (l : List ℕ) (v : ℕ). l ++ v ∷ []) e (sym (get_or-take len (drop (i * len) w) j 0 g ∙ get_or-drop (i * len) w j 0))
    ∙ sym (ap (map f) (groups-add len i 1 w) ∙ map-append f (groups len i w) (groups len 1 (drop (i * len) w)))

pub column-listed : (s : Size) (j n : ℕ) (w : List ℕ) → n * entry_len s ≤ length w → column j (entry_len s) n w ≡ map (word_at j) (listed s n w)
unfolding column groups listed word_at
column-listed s j zero w p = refl
column-listed s j (suc n) w p =
    let q : suc n * entry_len s ≡ n * entry_len s + entry_len s = suc-mul n (entry_len s) in
    ap₂ (λ (v : ℕ) (l : List ℕ). v ∷ l) (ap (λ (x : List ℕ). get_or x j 0) (sym (words-entry s (take (entry_len s) w) (length-take-le (entry_len s) w (omega arith)))))
    (column-listed s j n (drop (entry_len s) w) (omega (arith, length-drop (entry_len s) w)))
