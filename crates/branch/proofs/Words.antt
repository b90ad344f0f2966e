-- An entry's words with a word written: the words of the entry with its weight, or with its key and loss word changed. Assumes nothing.
use mathlib.Core.Path.{◌≡◌, refl, sym, ap, ◌∙◌}
use mathlib.Core.List.{List}
use Prim.Native.Nat.{ℕ, ◌^◌}
use lib.Bits.{bit_xor}
use lib.ListN.{length, get_or, set}
use Rattle.model.specs.Entries.{Keyed, entry_len, words_of, entry_of}
use Rattle.model.specs.Keys.{usual_salts}
use Rattle.model.specs.Changes.{masks_of, changed_body, changed_entry, changed_keyed}
use Rattle.model.specs.Store.{keyed_weighed, reweighed}
use Rattle.model.specs.declared.BranchMutation.TheVariants.{Loss as loss}
use Rattle.model.specs.declared.Size.{Size}
use Rattle.model.proofs.Packed.{words-entry}

-- ---- the weight

pub weight-written : (e : Keyed) (v : ℕ) → set (words_of e) 0 v ≡ words_of (reweighed keyed_weighed v e)
unfolding words_of reweighed
weight-written e v = refl

-- ---- a qubit lost, or live again: its key and its loss word

-- the phase-loss key of these words, XORed with d
abbrev rekeyed : ℕ → List ℕ → List ℕ
rekeyed d w = set w 3 (bit_xor (get_or w 3 0) d)

module _ (s : Size) (q : ℕ) (w : List ℕ) (d : ℕ) (l : length w ≡ entry_len s) (k : d ≡ masks_of usual_salts s.n (loss q) (entry_of s w).entry.body.rows) where
  abbrev parent : Keyed
  parent = entry_of s w

  abbrev rekeyed-entry : Keyed
  rekeyed-entry = record { entry = parent.entry; word_key = parent.word_key; phase_loss_key = bit_xor parent.phase_loss_key d }

  key-written : rekeyed d w ≡ words_of rekeyed-entry
  unfolding words_of
  key-written = ap (rekeyed d) (sym (words-entry s w l))

  pub loss-written : {t : ℕ} → t ≡ bit_xor (get_or (rekeyed d w) 1 0) (2 ^ q) → set (rekeyed d w) 1 t ≡ words_of (changed_keyed usual_salts s.n (loss q) parent)
  unfolding words_of changed_keyed changed_entry changed_body
  loss-written p =
      ap (set (rekeyed d w) 1) p ∙ ap (λ (v : List ℕ). set v 1 (bit_xor (get_or v 1 0) (2 ^ q))) key-written
      ∙ ap (λ (m : ℕ). words_of (record { entry = changed_entry s.n (loss q) parent.entry; word_key = parent.word_key; phase_loss_key = bit_xor parent.phase_loss_key m })) k
