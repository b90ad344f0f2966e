-- A branch of a parent with as many words as the size says is such an entry too, so its words hold it. Assumes nothing.
use mathlib.Core.Path.{◌≡◌}
use mathlib.Core.List.{List}
use Prim.Native.Nat.{ℕ}
use lib.ListN.{length}
use Rattle.model.specs.Entries.{Keyed, entry_len, words_of, entry_of}
use Rattle.model.specs.Keys.{usual_salts}
use Rattle.model.specs.Changes.{flipped_row, changed_body, changed_entry, changed_keyed}
use Rattle.model.specs.Store.{reweighed}
use Rattle.model.specs.declared.BranchMutation.{BranchMutation}
use Rattle.model.specs.declared.BranchMutation.TheVariants.{Pauli as pauli, Pair as pair, Loss as loss}
use Rattle.model.specs.declared.Salts.{Salts}
use Rattle.model.specs.declared.Size.{Size}
use Rattle.model.proofs.Packed.{Fits, entry-words, words-length}
use Rattle.model.proofs.Rows.{map_rows-length}
use Rattle.branch.specs.Made.{made_branch}
use Rattle.model.proofs.Packs.{entry-fits}

module _ (salts : Salts) (s : Size) where
  -- a change keeps the number of coefficients' words and of rows
  pub changed-fits : (c : BranchMutation) (e : Keyed) → Fits s e → Fits s (changed_keyed salts s.n c e)
  unfolding changed_keyed changed_entry changed_body
  changed-fits (pauli p q) e f = record { coefs = f.coefs; rows = map_rows-length s.n (flipped_row (pauli p q)) e.entry.body.rows }
  changed-fits (pair p a o b) e f = record { coefs = f.coefs; rows = map_rows-length s.n (flipped_row (pair p a o b)) e.entry.body.rows }
  changed-fits (loss q) e f = record { coefs = f.coefs; rows = f.rows }

module _ (s : Size) (c : BranchMutation) (weight : ℕ) (parent : List ℕ) where
  module _ (l : length parent ≡ entry_len s) where
    pub made-fits : Fits s (made_branch s c weight parent)
    unfolding reweighed
    made-fits = let f = changed-fits usual_salts s c (entry_of s parent) (entry-fits s parent l) in record { coefs = f.coefs; rows = f.rows }

    -- its words hold it
    pub made-entry : entry_of s (words_of (made_branch s c weight parent)) ≡ made_branch s c weight parent
    made-entry = entry-words s (made_branch s c weight parent) made-fits

    pub made-length : length (words_of (made_branch s c weight parent)) ≡ entry_len s
    made-length = words-length s (made_branch s c weight parent) made-fits
