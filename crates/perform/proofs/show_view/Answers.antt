-- What is shown fits in the record.
use Rattle.std.proofs.Common.{◌+◌, ◌-◌, ◌∙◌, sym, ap, arith, length}
use borrow.Rule.Slice.PartMut.{mid_of}
use Rattle.model.specs.Calls.{view, held, step}
use Rattle.perform.specs.Records.{number_words}
use Rattle.perform.proofs.Outputs.{room_for, output-fits}
use Rattle.perform.proofs.Overs.{over-whole}
use Rattle.perform.proofs.Records.{looked-view}
use Rattle.perform.proofs.show_view.Goals as goal

pub slice_bounds-copy_from_slice-end : goal.slice_bounds-copy_from_slice-end
unfolding room_for
slice_bounds-copy_from_slice-end c = omega (arith, ap length c.view_words_known-shown.ensures, output-fits (held c.args.h c.args.store.now) (view c.args.place), c.requires.0)

pub returns : goal.returns
returns c =
    let x = held c.args.h c.args.store.now in
    let out = c.args.out.now in
    let m = number_words + length c.view_words_known-shown.result.now - number_words in
    let shown = c.copy_from_slice.ensures.after ∙ c.view_words_known-shown.ensures in
    looked-view x c.view_answer_known-a.result out m (omega (arith, c.requires.0)) c.copy_from_slice.auto.self c.put_numbers.ensures c.args.place c.view_answer_known-a.ensures
    (shown ∙ over-whole (step (view c.args.place) x).output (mid_of number_words m out) (sym (ap length shown) ∙ c.copy_from_slice.auto.self))
