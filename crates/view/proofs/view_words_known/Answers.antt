use mathlib.Core.Path.{◌∙◌}
use native.Mathlib.Omega.{arith}
use Rattle.model.specs.Calls.{held}
use Rattle.view.proofs.Answers.{part-within, part-shown}
use Rattle.view.proofs.view_words_known.Goals as goal

pub stretch-requires : goal.stretch-requires
stretch-requires c =
    omega (arith, part-within (held c.args.h c.args.store.now) c.args.place c.view_answer_known-answer.result c.view_answer_known-answer.ensures)

pub returns : goal.returns
returns c =
    let a = c.view_answer_known-answer in
    c.stretch.ensures ∙ part-shown (held c.args.h c.args.store.now) c.args.place a.result a.ensures
