use Rattle.std.proofs.Common.{◌≡◌, ◌∙◌, sym, ap, subst, arith, length, take}
use Rattle.model.specs.Calls.{held, Left, plain_answer, overlaid}
use Rattle.model.specs.Trials.{Plan, TrialsPromise}
use Rattle.model.specs.declared.Answer.{Answer}
use Rattle.model.specs.declared.Header.{Header}
use Rattle.trials.specs.Steps.{does_not_fit}
use Rattle.trials.proofs.Slices.{fitting, from-others, from-slices, plan-from-slices}
use Rattle.trials.proofs.steps.try_steps.Goals as goal

not-zero : does_not_fit ≡ 0 → ⊥
not-zero e = omega (arith, e)

pub returns-then-not-well_formed-clause-answer : goal.returns-then-not-well_formed-clause-answer
unfolding plain_answer
returns-then-not-well_formed-clause-answer c =
    let a = c.args in
    c.plain_answer.ensures
    ∙ ap (λ (h : Header). plain_answer h does_not_fit) c.zero_header.ensures
    ∙ sym (ap (λ (l : Left). l.answer) (from-others a.size a.threshold a.cutoffs.now a.kinds.now a.qubits.now a.rates.now (length a.out.now) a.store.now (sym c.well_formed-2.ensures ∙ c.if-not-well_formed.true)))

pub returns-then-not-well_formed-clause-words : goal.returns-then-not-well_formed-clause-words
returns-then-not-well_formed-clause-words c =
    let a = c.args in
    sym (ap (λ (l : Left). l.words) (from-others a.size a.threshold a.cutoffs.now a.kinds.now a.qubits.now a.rates.now (length a.out.now) a.store.now (sym c.well_formed-2.ensures ∙ c.if-not-well_formed.true)))

pub returns-then-not-well_formed-clause-output : goal.returns-then-not-well_formed-clause-output
unfolding plain_answer
returns-then-not-well_formed-clause-output c =
    let a = c.args in
    sym
    (ap (λ (l : Left). overlaid l.output a.out.now) (from-others a.size a.threshold a.cutoffs.now a.kinds.now a.qubits.now a.rates.now (length a.out.now) a.store.now (sym c.well_formed-2.ensures ∙ c.if-not-well_formed.true)))

pub returns-then-not-well_formed-clause-promise : goal.returns-then-not-well_formed-clause-promise
unfolding plain_answer
returns-then-not-well_formed-clause-promise c = λ z. absurd (not-zero (sym (ap (λ (b : Answer). b.number) c.plain_answer.ensures) ∙ z))

pub channels_in-channels-requires : goal.channels_in-channels-requires
channels_in-channels-requires c =
    let a = c.args in
    let h = c.held_of-held.ensures in
    (h.0, h.1, (fitting a.kinds.now (length a.qubits.now) (length a.rates.now) (sym c.well_formed-2.ensures ∙ c.if-not-well_formed.false)).1)

pub qubits_in-on-requires : goal.qubits_in-on-requires
qubits_in-on-requires c =
    let a = c.args in
    let h = c.held_of-held.ensures in
    (h.0, omega (arith, h.1, (fitting a.kinds.now (length a.qubits.now) (length a.rates.now) (sym c.well_formed-2.ensures ∙ c.if-not-well_formed.false)).0))

pub returns-clause-answer : goal.returns-clause-answer
returns-clause-answer c =
    let a = c.args in
    let r = from-slices a.size a.threshold a.cutoffs.now a.kinds.now a.qubits.now a.rates.now (length a.out.now) a.store.now (sym c.well_formed-2.ensures ∙ c.if-not-well_formed.false)
    c.channels_in-channels.result c.qubits_in-on.result c.held_of-held.result c.held_of-held.ensures.2 c.channels_in-channels.ensures c.qubits_in-on.ensures in
    c.try_cutoffs.ensures.answer ∙ ap (λ (l : Left). l.answer) r

pub returns-clause-words : goal.returns-clause-words
returns-clause-words c =
    let a = c.args in
    let r = from-slices a.size a.threshold a.cutoffs.now a.kinds.now a.qubits.now a.rates.now (length a.out.now) a.store.now (sym c.well_formed-2.ensures ∙ c.if-not-well_formed.false)
    c.channels_in-channels.result c.qubits_in-on.result c.held_of-held.result c.held_of-held.ensures.2 c.channels_in-channels.ensures c.qubits_in-on.ensures in
    c.try_cutoffs.ensures.words ∙ ap (λ (l : Left). l.words) r

pub returns-clause-output : goal.returns-clause-output
returns-clause-output c =
    let a = c.args in
    let r = from-slices a.size a.threshold a.cutoffs.now a.kinds.now a.qubits.now a.rates.now (length a.out.now) a.store.now (sym c.well_formed-2.ensures ∙ c.if-not-well_formed.false)
    c.channels_in-channels.result c.qubits_in-on.result c.held_of-held.result c.held_of-held.ensures.2 c.channels_in-channels.ensures c.qubits_in-on.ensures in
    c.try_cutoffs.ensures.output ∙ ap (λ (l : Left). overlaid l.output a.out.now) r

pub returns-clause-promise : goal.returns-clause-promise
returns-clause-promise c = λ z.
    let u = c.try_cutoffs in
    let a = c.args in
    let r = plan-from-slices a.size a.threshold a.cutoffs.now a.kinds.now a.qubits.now a.rates.now (length a.out.now) a.store.now (sym c.well_formed-2.ensures ∙ c.if-not-well_formed.false)
    c.channels_in-channels.result c.qubits_in-on.result c.held_of-held.result c.held_of-held.ensures.2 c.channels_in-channels.ensures c.qubits_in-on.ensures (sym (ap (λ (b : Answer). b.number) u.ensures.answer) ∙ z) in
    subst (λ (p : Plan). TrialsPromise p a.store.now (held u.result.header u.new.store) (take u.result.length u.new.out)) r (u.ensures.promise z)
