-- Bits of which none is set leave the rows as they are.
use Rattle.std.proofs.Common.{ℕ, List, sym, ap₂, ◌∙◌}
use Rattle.model.specs.Lists.{all_below}
use Rattle.branch.specs.Same.{same_word}
use Rattle.branch.proofs.Kept.{rows-unflipped}
use Rattle.branch.proofs.same_part.Goals as goal

pub returns-then-flips-eq0 : goal.returns-then-flips-eq0
returns-then-flips-eq0 c =
    let a = c.args in
    λ m q. c.same_words.ensures
    ∙ ap₂ (λ (l : List ℕ) (k : ℕ). all_below (same_word a.e.now l) k) (sym (rows-unflipped m a.rows a.p.now (sym q ∙ c.if-flips-eq0.true) c.requires.2)) c.requires.2
