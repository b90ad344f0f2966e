-- A call's targets are run, and any other line leaves the sum as it is.
use Rattle.std.proofs.Common.{refl, sym, subst, ap}
use Rattle.passes.specs.declared.Pass.{Pass}
use Rattle.passes.specs.Turns.{Stands, nothing, bad}
use Rattle.second_pass.specs.Lines.{calls_of, calls_for, instruction}
use Rattle.second_pass.proofs.Lines.{same_sum, line-ran, calls-nothing}
use Rattle.second_pass.proofs.second.run_item.Goals as goal

pub returns-in-Nothing-clause-is : goal.returns-in-Nothing-clause-is
unfolding calls_for
returns-in-Nothing-clause-is c =
    calls-nothing c.args.line.now c.parse-l.result c.parse-l.ensures.is c.in-Nothing.is refl refl (subst (Stands _) (sym c.requires.0) nothing)

pub returns-in-Bad-clause-is : goal.returns-in-Bad-clause-is
unfolding calls_for
returns-in-Bad-clause-is c =
    let e = c.ended.ensures in
    calls-nothing c.args.line.now c.parse-l.result c.parse-l.ensures.is c.in-Bad.is refl (same_sum c.args.r c.ended.result c.args.store.now e.1)
    (subst (Stands _) (sym e.0) bad)

pub returns-in-Call-clause-is : goal.returns-in-Call-clause-is
unfolding calls_for
returns-in-Call-clause-is c =
    let l = c.parse-l.result in
    line-ran c.args.line.now l c.parse-l.ensures.is c.in-Call.is
    (instruction {cs = calls_of c.in-Call.act l.rates c.args.line.now l.targets} c.run_targets.ensures.is)

pub returns-in-Repeat-clause-is : goal.returns-in-Repeat-clause-is
unfolding calls_for
returns-in-Repeat-clause-is c =
    let e = c.with_pass.ensures in
    calls-nothing c.args.line.now c.parse-l.result c.parse-l.ensures.is c.in-Repeat.is refl
    (same_sum c.args.r c.with_pass.result c.args.store.now e.1) (subst (Stands _) (sym (ap (λ (p : Pass). p.outcome) e.0)) c.opened.ensures)

pub returns-in-Close-clause-is : goal.returns-in-Close-clause-is
unfolding calls_for
returns-in-Close-clause-is c =
    let e = c.with_pass-in-Close.ensures in
    calls-nothing c.args.line.now c.parse-l.result c.parse-l.ensures.is c.in-Close.is refl
    (same_sum c.args.r c.with_pass-in-Close.result c.args.store.now e.1) (subst (Stands _) (sym (ap (λ (p : Pass). p.outcome) e.0)) c.closed.ensures)
