use Rattle.std.proofs.Common.{◌&&◌, Bool, nat_eq, sym, ap, ◌∙◌, arith}
use Rattle.model.specs.Numbers.{all_zero}
use Rattle.model.proofs.Lists.{and-true, every-end}
use Rattle.checks.proofs.Ors.{zero-next}
use Rattle.checks.proofs.all_zero.Goals as goal

pub loop-word-preserved : goal.loop-word-preserved
loop-word-preserved c = zero-next c.args.part.now c.loop-word.word-index c.loop-word.any (omega arith) ∙ c.loop-word.invariant

pub returns : goal.returns
unfolding all_zero
returns c =
    let l = c.loop-word in
    sym (and-true (nat_eq l.any 0)) ∙ ap (λ (t : Bool). nat_eq l.any 0 && t) (sym (every-end (λ x. nat_eq x 0) c.args.part.now l.word-index (omega arith))) ∙ l.invariant
