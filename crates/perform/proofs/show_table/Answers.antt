use Rattle.std.proofs.Common.{◌≡◌, ℕ, ◌+◌, ◌-◌, ◌∙◌, ap, arith, length}
use borrow.Rule.Slice.PartMut.{mid_of, mid_len}
use Rattle.model.specs.Calls.{table, held, step, overlaid}
use Rattle.perform.specs.Records.{number_words}
use Rattle.perform.proofs.Records.{looked-table}
use Rattle.perform.proofs.show_table.Goals as goal

pub returns : goal.returns
returns c =
    let x = held c.args.h c.args.store.now in
    let out = c.args.out.now in
    let room = c.args.room in
    let m = number_words + room - number_words in
    let long : length (mid_of number_words m out) ≡ room = mid_len number_words (number_words + room) out (omega arith) ∙ (omega arith) in
    looked-table x c.table_known-a.result out m (omega arith) c.table_known-a.auto.out c.put_numbers.ensures room
    (c.table_known-a.ensures.answer ∙ ap (λ (k : ℕ). (step (table k) x).answer) long)
    (c.table_known-a.ensures.output ∙ ap (λ (k : ℕ). overlaid (step (table k) x).output (mid_of number_words m out)) long)
