-- `view::view` meets its contract: the words are the entry's stretch, or none. Assumes nothing.
use Rattle.std.proofs.Common.{arith, ◌∙◌}
use Rattle.model.specs.Calls.{held}
use Rattle.view.proofs.Answers.{part-within, part-shown, view-left}
use Rattle.view.proofs.view.Goals as goal

pub stretch-requires : goal.stretch-requires
stretch-requires c =
    let a = c.view_answer-answer in
    omega (arith, part-within (held c.args.h c.args.store.now) c.args.place a.result a.ensures)

pub returns : goal.returns
returns c =
    let a = c.view_answer-answer in
    let x = held c.args.h c.args.store.now in
    view-left x c.args.place a.result c.stretch.result.now a.ensures (c.stretch.ensures ∙ part-shown x c.args.place a.result a.ensures)
