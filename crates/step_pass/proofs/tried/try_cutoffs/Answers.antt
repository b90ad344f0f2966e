-- The arrays that it hands over stand for the steps that were gathered.
use Rattle.std.proofs.Common.{ap, ◌∙◌, length}
use Rattle.model.specs.Calls.{overlaid}
use Rattle.model.specs.Trials.{Plan, tried}
use Rattle.model.specs.declared.Answer.{Answer}
use Rattle.step_pass.proofs.Gathering.{planned}
use Rattle.step_pass.proofs.tried.try_cutoffs.Goals as goal

pub returns-clause-number : goal.returns-clause-number
returns-clause-number c =
    let a = c.args in
    ap (λ (r : Answer). r.number) c.try_cutoffs-a.ensures.answer
    ∙ ap (λ (p : Plan). (tried p (length a.out.now) a.store.now).answer.number)
    (planned a.size a.threshold a.cutoffs.now a.g c.channels_of.ensures c.qubits_of.ensures)

pub returns-clause-shown : goal.returns-clause-shown
returns-clause-shown c =
    let a = c.args in
    c.try_cutoffs-a.ensures.output
    ∙ ap (λ (p : Plan). overlaid (tried p (length a.out.now) a.store.now).output a.out.now)
    (planned a.size a.threshold a.cutoffs.now a.g c.channels_of.ensures c.qubits_of.ensures)
