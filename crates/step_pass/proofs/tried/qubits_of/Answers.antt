-- One place more is filled, and in the end all are.
use Rattle.std.proofs.Common.{◌≡◌, ◌∙◌, refl, length, length-set, arith, rules}
use Rattle.step_pass.proofs.Mapped.{mapped_next, mapped_end}
use Rattle.step_pass.proofs.tried.qubits_of.Goals as goal

pub loop-i-init : goal.loop-i-init
loop-i-init c = record { long = refl; filled = refl }

pub loop-i-preserved : goal.loop-i-preserved
loop-i-preserved c =
    let l = c.loop-i in
    let long : length c.args.steps ≡ 64 = search rules in
    record {
      long = length-set l.qubits l.i _ ∙ l.invariant.long;
      filled = mapped_next (λ s. s.qubit) c.args.steps l.qubits l.i _ (omega (arith, l.invariant.long)) (omega arith) l.invariant.filled;
    }

pub returns : goal.returns
returns c =
    let l = c.loop-i in
    let long : length c.args.steps ≡ 64 = search rules in
    mapped_end (λ s. s.qubit) c.args.steps l.qubits l.i (omega (arith, l.invariant.long)) (omega arith) l.invariant.filled
