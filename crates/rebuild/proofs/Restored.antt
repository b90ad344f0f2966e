-- Saved words put back: a list that differs from the saved one in those words alone becomes it, whatever stands behind it. Assumes nothing.
use mathlib.Core.Path.{◌≡◌, refl, sym, ap, ◌∙◌}
use mathlib.Core.List.{List, [], ◌∷◌, ◌++◌, append-nil, map}
use Prim.Native.Nat.{ℕ, zero, suc, ◌≤◌}
use native.Mathlib.Nat.{not-suc-le-zero, le_of_suc-le-suc}
use lib.ListN.{length, take, get_or}
use Rattle.model.specs.Entries.{Entry, Keyed, strip}
use Rattle.model.specs.Keys.{keyed}
use Rattle.model.specs.Store.{keyed_weighed, weight_of, reweighed}
use Rattle.model.specs.Calls.{rebuilt_entries}
use Rattle.entries.proofs.Turns.{changed_below}
use Rattle.rebuild.specs.Saved.{each_by, with_weights, with_word_key, with_phase_loss_key, with_key_words}

-- an entry with its weight set aside
unfoldable pub unweighed : Keyed → Keyed
unweighed e = reweighed keyed_weighed 0 e

-- what puts each entry back, from one that is the same but for what is set aside, puts the list back
module _ {X : Type 0} (aside : Keyed → X) (back : List Keyed → List Keyed → List Keyed) (none : (ds : List Keyed) → back [] ds ≡ ds)
    (one : (d e : Keyed) (ds es : List Keyed) → aside d ≡ aside e → back (e ∷ es) (d ∷ ds) ≡ e ∷ back es ds) where
  all_back : (ds es rest : List Keyed) → map aside ds ≡ map aside es → back es (ds ++ rest) ≡ es ++ rest
  all_back [] [] rest h = none rest
  all_back [] (e ∷ es) rest h = cc
  all_back (d ∷ ds) [] rest h = cc
  all_back (d ∷ ds) (e ∷ es) rest h =
      let p : aside d ≡ aside e = cc in
      let q : map aside ds ≡ map aside es = cc in
      one d e (ds ++ rest) es p ∙ ap (λ (l : List Keyed). e ∷ l) (all_back ds es rest q)

pub weights-back : (ds es rest : List Keyed) → map unweighed ds ≡ map unweighed es → with_weights (map (weight_of keyed_weighed) es) (ds ++ rest) ≡ es ++ rest
unfolding with_weights each_by reweighed unweighed
weights-back =
    all_back unweighed (λ es ds. with_weights (map (weight_of keyed_weighed) es) ds) (λ ds. refl)
    (λ d e ds es p. ap (λ (x : Keyed). reweighed keyed_weighed (weight_of keyed_weighed e) x ∷ with_weights (map (weight_of keyed_weighed) es) ds) p)

-- the two key words of each
abbrev pub with_keys_of : List Keyed → List Keyed → List Keyed
with_keys_of es ds = with_key_words (map (λ e. e.word_key) es) (map (λ e. e.phase_loss_key) es) ds

pub keys-back : (ds es rest : List Keyed) → map strip ds ≡ map strip es → with_keys_of es (ds ++ rest) ≡ es ++ rest
unfolding with_key_words each_by with_word_key with_phase_loss_key
keys-back =
    all_back strip with_keys_of (λ ds. refl)
    (λ d e ds es p. ap (λ (x : Entry). record { entry = x; word_key = e.word_key; phase_loss_key = e.phase_loss_key } ∷ with_keys_of es ds) p)

-- one key after the other
pub both-keys : {ds ws : List Keyed} (words phases : List ℕ) (es : List Keyed) → ws ≡ each_by with_word_key words es → ds ≡ each_by with_phase_loss_key phases ws → ds ≡ with_key_words words phases es
unfolding with_key_words
both-keys words phases es p q = q ∙ ap (each_by with_phase_loss_key phases) p

-- ---- where nothing stands behind it

whole : (f : List Keyed → List Keyed) (ds es : List Keyed) → f (ds ++ []) ≡ es ++ [] → f ds ≡ es
whole f ds es h = ap f (sym (append-nil ds)) ∙ h ∙ append-nil es

pub weights-restored : (ds es : List Keyed) → map unweighed ds ≡ map unweighed es → with_weights (map (weight_of keyed_weighed) es) ds ≡ es
weights-restored ds es h = whole (with_weights (map (weight_of keyed_weighed) es)) ds es (weights-back ds es [] h)

-- rebuilt keys are all that a rebuild changes
pub rebuilt-same : (n : ℕ) (es : List Keyed) → map strip (rebuilt_entries n es) ≡ map strip es
unfolding rebuilt_entries keyed
rebuilt-same n [] = refl
rebuilt-same n (e ∷ es) = ap (λ (l : List Entry). e.entry ∷ l) (rebuilt-same n es)

pub keys-restored : (n : ℕ) (es : List Keyed) → with_keys_of es (rebuilt_entries n es) ≡ es
keys-restored n es = whole (with_keys_of es) (rebuilt_entries n es) es (keys-back (rebuilt_entries n es) es [] (rebuilt-same n es))

-- ---- put back by a loop, entry by entry

pub below_by : (f : ℕ → Keyed → Keyed) (n : ℕ) (vs : List ℕ) (es : List Keyed) → n ≤ length vs → changed_below (λ i. f (get_or vs i 0)) n es ≡ each_by f (take n vs) es
unfolding changed_below each_by
below_by f zero vs es h = refl
below_by f (suc n) [] es h = absurd (not-suc-le-zero h)
below_by f (suc n) (v ∷ vs) [] h = refl
below_by f (suc n) (v ∷ vs) (e ∷ es) h = ap (λ (l : List Keyed). f v e ∷ l) (below_by f n vs es (le_of_suc-le-suc h))
