-- An entry's words that a call saves and puts back: its weight and its two keys. Assumes nothing.
use Rattle.std.specs.Prelude.{List, [], ◌∷◌, ℕ, zero, suc, get_or}
use Rattle.model.specs.Entries.{Keyed, words_of, entry_of, stretch}
use Rattle.model.specs.Keys.{usual_salts, word_key_of, phase_loss_key_of}
use Rattle.model.specs.Store.{keyed_weighed, reweighed}
use Rattle.model.specs.declared.Size.{Size}

-- each of the first entries changed by its own word, the others as they are
unfoldable pub each_by : (ℕ → Keyed → Keyed) → List ℕ → List Keyed → List Keyed
each_by f [] es = es
each_by f (v ∷ vs) [] = []
each_by f (v ∷ vs) (e ∷ es) = f v e ∷ each_by f vs es

-- the first entries given these weights
unfoldable pub with_weights : List ℕ → List Keyed → List Keyed
with_weights ws es = each_by (reweighed keyed_weighed) ws es

unfoldable pub with_word_key : ℕ → Keyed → Keyed
with_word_key k e = record { entry = e.entry; word_key = k; phase_loss_key = e.phase_loss_key }

unfoldable pub with_phase_loss_key : ℕ → Keyed → Keyed
with_phase_loss_key p e = record { entry = e.entry; word_key = e.word_key; phase_loss_key = p }

-- the first entries given these word keys and these phase-loss keys
unfoldable pub with_key_words : (words phases : List ℕ) → List Keyed → List Keyed
with_key_words words phases es = each_by with_phase_loss_key phases (each_by with_word_key words es)

-- the keys worked out anew from the entry at place i of a store
abbrev pub word_key_at : Size → List ℕ → ℕ → ℕ
word_key_at s w i = word_key_of s.n (entry_of s (stretch s w i)).entry.body

abbrev pub phase_loss_key_at : Size → List ℕ → ℕ → ℕ
phase_loss_key_at s w i = phase_loss_key_of usual_salts s.n (entry_of s (stretch s w i)).entry.body

-- ---- by the place of the word: weight 0, loss word 1, word key 2, phase-loss key 3

unfoldable pub word_at : ℕ → Keyed → ℕ
word_at j e = get_or (words_of e) j 0

unfoldable pub with_loss : ℕ → Keyed → Keyed
with_loss v e =
    record {
      entry =
          record {
            weight = e.entry.weight;
            body = record { loss = v; count = e.entry.body.count; coefs = e.entry.body.coefs; rows = e.entry.body.rows };
          };
      word_key = e.word_key;
      phase_loss_key = e.phase_loss_key;
    }

unfoldable pub with_word : ℕ → ℕ → Keyed → Keyed
with_word zero = reweighed keyed_weighed
with_word (suc zero) = with_loss
with_word (suc (suc zero)) = with_word_key
with_word (suc (suc (suc j))) = with_phase_loss_key
