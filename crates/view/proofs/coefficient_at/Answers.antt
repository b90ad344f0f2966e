use mathlib.Core.Path.{ap, ◌∙◌}
use Rattle.model.specs.Floats.{float}
use Rattle.view.proofs.Triples.{coefficient-past, coefficient-there}
use Rattle.view.proofs.coefficient_at.Goals as goal

pub returns-then-size-j : goal.returns-then-size-j
returns-then-size-j c =
    let a = c.args in
    coefficient-past a.size a.words.now a.j c.if-size-j.true

pub returns : goal.returns
returns c =
    let a = c.args in
    rw (c.triple_word.ensures, c.float_of.ensures ∙ ap float c.triple_word-2.ensures, c.float_of-2.ensures ∙ ap float c.triple_word-3.ensures)
    (coefficient-there a.size a.words.now a.j c.if-size-j.false)
