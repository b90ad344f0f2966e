use Rattle.std.proofs.Common.{◌≡◌, ℕ, ◌*◌, ◌∙◌, sym, ap, subst, arith, length, take}
use mathlib.Core.Path.{ap₂}
use Rattle.model.specs.Calls.{Lent, held, Left, answer_of, no_counts, plain_answer, overlaid}
use Rattle.model.specs.Demand3.{next}
use Rattle.model.specs.Trials.{plan_of, tried_all, TrialsPromise}
use Rattle.model.specs.declared.Answer.{Answer}
use Rattle.model.specs.declared.Header.{Header}
use Rattle.model.specs.declared.Lost.{Lost}
use Rattle.model.proofs.Trials.{steps-length}
use Rattle.trials.proofs.Places.{few-judged, few_words}
use Rattle.trials.proofs.SoFar.{tried-refused, tried-done, promised}
use Rattle.trials.proofs.try_cutoffs.Goals as goal

pub returns-then-number-ne0-clause-answer : goal.returns-then-number-ne0-clause-answer
unfolding plain_answer
returns-then-number-ne0-clause-answer c =
    c.plain_answer.ensures
    ∙ ap (λ (h : Header). plain_answer h c.trials_number-number.result) c.zero_header.ensures
    ∙ sym (ap (λ (l : Left). l.answer) (tried-refused _ _ _ _ c.trials_number-number.ensures c.if-number-ne0.true))

pub returns-then-number-ne0-clause-words : goal.returns-then-number-ne0-clause-words
returns-then-number-ne0-clause-words c = sym (ap (λ (l : Left). l.words) (tried-refused _ _ _ _ c.trials_number-number.ensures c.if-number-ne0.true))

pub returns-then-number-ne0-clause-output : goal.returns-then-number-ne0-clause-output
unfolding plain_answer
returns-then-number-ne0-clause-output c =
    sym (ap (λ (l : Left). overlaid l.output c.args.out.now) (tried-refused _ _ _ _ c.trials_number-number.ensures c.if-number-ne0.true))

pub returns-then-number-ne0-clause-promise : goal.returns-then-number-ne0-clause-promise
unfolding plain_answer
returns-then-number-ne0-clause-promise c = λ z. absurd (c.if-number-ne0.true (sym (ap (λ (a : Answer). a.number) c.plain_answer.ensures) ∙ z))

pub overflow_mul-cutoffs-2 : goal.overflow_mul-cutoffs-2
overflow_mul-cutoffs-2 c = omega (arith, few_words (few-judged (plan_of c.args.size c.args.threshold c.args.cutoffs.now c.args.channels c.args.qubits c.args.count) _ _ (sym c.trials_number-number.ensures ∙ c.if-number-ne0.false)))

pub returns-clause-answer : goal.returns-clause-answer
unfolding tried_all
returns-clause-answer c =
    c.without_counts.ensures
    ∙ ap₂ (λ (h : Header) (l : Lost). answer_of 0 h no_counts l 0 (2 * length c.args.cutoffs.now * c.args.count)) (ap (λ (x : Lent). x.header) c.run_trials-h.ensures.left) c.no_loss.ensures
    ∙ sym (ap (λ (l : Left). l.answer) (tried-done _ _ _ _ c.trials_number-number.ensures c.if-number-ne0.false))

pub returns-clause-words : goal.returns-clause-words
unfolding tried_all
returns-clause-words c =
    ap (λ (x : Lent). x.words) c.run_trials-h.ensures.left ∙ sym (ap (λ (l : Left). l.words) (tried-done _ _ _ _ c.trials_number-number.ensures c.if-number-ne0.false))

pub returns-clause-output : goal.returns-clause-output
unfolding tried_all
returns-clause-output c =
    c.run_trials-h.ensures.shown
    ∙ sym (ap (λ (l : Left). overlaid l.output c.args.out.now) (tried-done _ _ _ _ c.trials_number-number.ensures c.if-number-ne0.false))

pub returns-clause-promise : goal.returns-clause-promise
unfolding tried_all
returns-clause-promise c =
    let a = c.args in
    let p = plan_of a.size a.threshold a.cutoffs.now a.channels a.qubits a.count in
    let accepted = sym c.trials_number-number.ensures ∙ c.if-number-ne0.false in
    let b = few-judged p _ _ accepted in
    let many : length p.calls ≡ a.count = steps-length a.count a.channels a.qubits (omega (arith, b.steps-64)) (omega (arith, b.steps-64)) in
    let r = tried-done p (length a.out.now) a.store.now _ c.trials_number-number.ensures c.if-number-ne0.false in
    let w = c.run_trials-h.new.store in
    let v = c.run_trials-h.new.out in
    let x = held c.without_counts.result.header w in
    λ z.
    subst (λ (n : ℕ). TrialsPromise p a.store.now x (take n v)) (sym (ap (λ (b : Answer). b.length) c.without_counts.ensures))
    (promised p (length a.out.now) a.store.now many accepted x v a.out.now
    (ap (λ (b : Answer). held b.header w) c.without_counts.ensures ∙ c.run_trials-h.ensures.left ∙ sym (ap next r))
    (c.run_trials-h.ensures.shown ∙ sym (ap (λ (l : Left). overlaid l.output a.out.now) r)))
