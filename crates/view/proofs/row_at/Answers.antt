use native.Mathlib.Omega.{arith}
use Rattle.view.proofs.Triples.{row-past, row-there}
use Rattle.view.proofs.row_at.Goals as goal
use Rattle.view.proofs.row_at.Goals.{then-words-k-via-then-words-k, then-words-k-via-else-words-k+then-words-k-2}

pub returns-then-words-k : goal.returns-then-words-k
returns-then-words-k c =
    let a = c.args in
    elim c.then-words-k.branch [
      | then-words-k-via-then-words-k w ↦ row-past a.size a.words.now a.r (omega (arith, w.if-words-k.true))
      | then-words-k-via-else-words-k+then-words-k-2 w ↦ row-past a.size a.words.now a.r (omega (arith, w.if-words-k.false, w.if-words-k-2.true))
    ]

pub returns : goal.returns
returns c =
    let a = c.args in
    rw (c.triple_word.ensures, c.triple_word-2.ensures, c.triple_word-3.ensures) (row-there a.size a.words.now a.r)
