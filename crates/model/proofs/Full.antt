-- Bodies with as many words as the size says, and that every call keeps them so. Assumes nothing.
use Rattle.model.specs.Entries.{Body, Entry}
use Rattle.model.specs.Changes.{changed_body}
use Rattle.model.specs.declared.BranchMutation.{BranchMutation}
use Rattle.model.specs.declared.BranchMutation.TheVariants.{Pauli as pauli, Pair as pair, Loss as loss}
use Rattle.model.specs.declared.Size.{Size}
use Rattle.model.proofs.Rows.{map_rows-length}
use Rattle.model.proofs.Packed.{FullBody}
use Rattle.model.proofs.Kept.{KeptBody}

abbrev pub Full : Size → Entry → Type 0
Full s e = FullBody s e.body

changed-full : (s : Size) (c : BranchMutation) (b : Body) → FullBody s b → FullBody s (changed_body s.n c b)
unfolding changed_body
changed-full s (pauli p q) b h = record { coefs = h.coefs; rows = map_rows-length s.n _ b.rows }
changed-full s (pair p a o q) b h = record { coefs = h.coefs; rows = map_rows-length s.n _ b.rows }
changed-full s (loss q) b h = record { coefs = h.coefs; rows = h.rows }

pub full-kept : (s : Size) → KeptBody s.n (FullBody s)
full-kept s =
    record {
      changes = λ c b q h. changed-full s c b h;
      gates = λ g b f h. record { coefs = h.coefs; rows = map_rows-length s.n _ b.rows };
    }
