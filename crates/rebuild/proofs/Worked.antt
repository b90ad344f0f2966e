-- Keys worked out, place by place, into an array, and what they are put back to. Assumes nothing.
use mathlib.Core.Path.{◌≡◌, refl, sym, ap, ap₂, ◌∙◌}
use mathlib.Core.List.{List, [], ◌∷◌, map}
use mathlib.Core.Logic.{⊎_elim}
use Prim.Native.Nat.{ℕ, suc, ◌+◌, ◌*◌, ◌<◌, ◌≤◌}
use native.Mathlib.Nat.{eq-or-lt_of_le, le_of_suc-le-suc}
use native.Mathlib.Omega.{arith}
use lib.ListN.{length, take, get_or, set, length-set, length-map}
use lib.Seq.{get_or-set_same, get_or-set_other, get_or-take, length-take-le, ext_get_or}
use Rattle.model.specs.Entries.{Keyed, phase_at, entry_of, entry_len, listed, stretch, body_in}
use Rattle.model.specs.Keys.{bit, usual_salts, phase_loss_key, word_key_of, phase_loss_key_of, keyed}
use Rattle.model.specs.declared.Salts.{Salts}
use Rattle.model.specs.Calls.{rebuilt_entries}
use Rattle.model.specs.declared.Size.{Size}
use Rattle.model.proofs.Lists.{get_or-mapped}
use Rattle.model.proofs.Entries.{length-listed, listed_at}
use Rattle.rebuild.specs.Saved.{phase_loss_key_at, each_by, with_word_key, with_phase_loss_key, with_key_words}

-- the first i words are f 0, f 1, ..
pub record Worked (f : ℕ → ℕ) (i : ℕ) (found : List ℕ) : Type 0 where
  pub words : length found ≡ 256
  pub at : (j : ℕ) → j < i → get_or found j 0 ≡ f j

pub worked-none : (f : ℕ → ℕ) (found : List ℕ) → length found ≡ 256 → Worked f 0 found
worked-none f found l = record { words = l; at = λ j h. absurd (omega arith) }

pub worked-next : {found : List ℕ} {v : ℕ} (f : ℕ → ℕ) (i k : ℕ) → k ≡ i + 1 → i < 256 → Worked f i found → v ≡ f i → Worked f k (set found i v)
worked-next {found} {v} f i k n l w e =
    record {
      words = length-set found i v ∙ w.words;
      at = λ j h.
          let c : suc j ≤ suc i = omega arith in
          ⊎_elim
          (λ (q : j ≡ i). ap (λ (m : ℕ). get_or (set found i v) m 0) q ∙ get_or-set_same found i v 0 (omega (arith, w.words)) ∙ e ∙ ap f (sym q))
          (λ (d : j < i). get_or-set_other found i j v 0 (λ q. omega arith) ∙ w.at j d)
          (eq-or-lt_of_le (le_of_suc-le-suc c));
    }

-- all of a store's entries
pub worked-all : {found : List ℕ} (s : Size) (count : ℕ) (store : List ℕ) (g : Keyed → ℕ) (i : ℕ) → i ≡ count → count ≤ 256 → Worked (λ j. g (entry_of s (stretch s store j))) i found → take count found ≡ map g (listed s count store)
worked-all {found} s count store g i e l w =
    let es = listed s count store in
    let none = entry_of s [] in
    let long : length (take count found) ≡ count = length-take-le count found (omega (arith, w.words)) in
    ext_get_or 0 (take count found) (map g es) (long ∙ sym (length-map es g ∙ length-listed s count store))
    (λ j h.
    let b : j < count = omega arith in
    get_or-take count found j 0 b ∙ w.at j (omega arith)
    ∙ sym (get_or-mapped g es j none 0 (omega (arith, length-listed s count store)) ∙ ap g (listed_at s count j store none b)))

-- ---- keys

-- an entry stands within the store
pub inside : (s : Size) {len : ℕ} (i : ℕ) (w : List ℕ) → len ≡ entry_len s → i * entry_len s + entry_len s ≤ length w → i * len + len ≤ length w
inside s i w e h = rw e h

-- from an entry's rows and its loss word
pub phase-loss-key-is : {r loss : ℕ} {rows : List ℕ} {salts : Salts} (s : Size) (w : List ℕ) (i : ℕ) → r ≡ phase_loss_key salts s.n (phase_at rows) (λ q. bit q loss)
    → salts ≡ usual_salts → rows ≡ (body_in s (stretch s w i)).rows → loss ≡ (body_in s (stretch s w i)).loss → r ≡ phase_loss_key_at s w i
unfolding phase_loss_key_of
phase-loss-key-is {r} {loss} {rows} {salts} s w i e es er el =
    e ∙ ap₂ (λ (t : Salts) (l : List ℕ). phase_loss_key t s.n (phase_at l) (λ q. bit q loss)) es er
    ∙ ap (λ (l : ℕ). phase_loss_key usual_salts s.n (phase_at (body_in s (stretch s w i)).rows) (λ q. bit q l)) el

-- the two keys of each entry, put into it
keys-rebuilt : (n : ℕ) (es : List Keyed) → with_key_words (map (λ e. word_key_of n e.entry.body) es) (map (λ e. phase_loss_key_of usual_salts n e.entry.body) es) es ≡ rebuilt_entries n es
unfolding with_key_words each_by with_word_key with_phase_loss_key rebuilt_entries keyed
keys-rebuilt n [] = refl
keys-rebuilt n (e ∷ es) = ap (λ (l : List Keyed). keyed usual_salts n e.entry ∷ l) (keys-rebuilt n es)

pub all-rebuilt : {ws ps : List ℕ} {new : List Keyed} (n : ℕ) (es : List Keyed) → ws ≡ map (λ e. word_key_of n e.entry.body) es → ps ≡ map (λ e. phase_loss_key_of usual_salts n e.entry.body) es
    → new ≡ with_key_words ws ps es → new ≡ rebuilt_entries n es
all-rebuilt n es ew ep e = e ∙ ap₂ (λ (w p : List ℕ). with_key_words w p es) ew ep ∙ keys-rebuilt n es
