use mathlib.Core.Path.{◌≡◌, sym, ap, ◌∙◌}
use Rattle.model.specs.Numbers.{first_of}
use Rattle.model.specs.Calls as Calls
use Rattle.model.specs.Calls.{Lent, Left, held, argument_tests, front, answer_of, no_counts}
use Rattle.model.specs.Store.{no_loss}
use Rattle.model.proofs.Entries.{length-stretch}
use Rattle.model.proofs.Steps.{front-refuses}
use Rattle.model.proofs.Sound.{front-sound}
use Rattle.answers.proofs.Looked.{refused-answer}
use Rattle.view.proofs.Answers.{own_is, listed-there, listed_in, view-0}
use Rattle.view.proofs.view_answer_known.Goals as goal

pub returns-then-number-ne0 : goal.returns-then-number-ne0
returns-then-number-ne0 c =
    let own : c.test-own.result ≡ first_of (argument_tests (Calls.view c.args.place) c.args.h.size c.args.h.count) = c.test-own.ensures ∙ own_is (held c.args.h c.args.store.now) c.args.place in
    refused-answer (held c.args.h c.args.store.now) _ c.plain_answer.ensures (front-refuses (Calls.view c.args.place) (held c.args.h c.args.store.now) _ _ own c.front-number.ensures c.if-number-ne0.true)

pub entry_len-requires : goal.entry_len-requires
entry_len-requires c =
    let passed : front c.test-own.result (held c.args.h c.args.store.now) ≡ 0 = sym c.front-number.ensures ∙ c.if-number-ne0.false in
    let s = (front-sound (held c.args.h c.args.store.now) _ passed).packed.sized in
    record { qubits = s.qubits.high; coefficients = s.coefficients.high }

pub returns : goal.returns
returns c =
    let own : c.test-own.result ≡ first_of (argument_tests (Calls.view c.args.place) c.args.h.size c.args.h.count) = c.test-own.ensures ∙ own_is (held c.args.h c.args.store.now) c.args.place in
    let passed : front c.test-own.result (held c.args.h c.args.store.now) ≡ 0 = sym c.front-number.ensures ∙ c.if-number-ne0.false in
    let x = (held c.args.h c.args.store.now) in
    let place = c.args.place in
    let o = own in
    c.looked_answer.ensures
    ∙ ap (answer_of 0 x.header no_counts no_loss 0)
    (c.entry_len.ensures
    ∙ sym (length-stretch x.header.size x.words place x.header.count (listed_in x place _ o passed) (listed-there x place _ o passed)))
    ∙ sym (ap (λ (l : Left). l.answer) (view-0 x place _ o passed))
