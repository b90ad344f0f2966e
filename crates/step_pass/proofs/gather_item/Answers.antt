-- The steps of an instruction are gathered, and any other line leaves them as they are.
use Rattle.std.proofs.Common.{refl, sym, subst, ap}
use Rattle.passes.specs.declared.Pass.{Pass}
use Rattle.passes.specs.Turns.{Stands, nothing, bad}
use Rattle.second_pass.specs.Lines.{calls_for}
use Rattle.step_pass.proofs.Gathering.{line-gathers, gathers-nothing}
use Rattle.step_pass.proofs.gather_item.Goals as goal

pub returns-in-Nothing : goal.returns-in-Nothing
unfolding calls_for
returns-in-Nothing c =
    gathers-nothing c.args.line.now c.parse-l.result c.parse-l.ensures.is c.in-Nothing.is refl refl (subst (Stands _) (sym c.requires) nothing)

pub returns-in-Bad : goal.returns-in-Bad
unfolding calls_for
returns-in-Bad c =
    let e = c.ended.ensures in
    gathers-nothing c.args.line.now c.parse-l.result c.parse-l.ensures.is c.in-Bad.is refl e.1 (subst (Stands _) (sym e.0) bad)

pub returns-in-Call : goal.returns-in-Call
unfolding calls_for
returns-in-Call c = line-gathers c.args.line.now c.parse-l.result c.parse-l.ensures.is c.in-Call.is c.gather_call.ensures

pub returns-in-Repeat : goal.returns-in-Repeat
unfolding calls_for
returns-in-Repeat c =
    let e = c.with_pass.ensures in
    gathers-nothing c.args.line.now c.parse-l.result c.parse-l.ensures.is c.in-Repeat.is refl e.1
    (subst (Stands _) (sym (ap (λ (p : Pass). p.outcome) e.0)) c.opened.ensures)

pub returns-in-Close : goal.returns-in-Close
unfolding calls_for
returns-in-Close c =
    let e = c.with_pass-in-Close.ensures in
    gathers-nothing c.args.line.now c.parse-l.result c.parse-l.ensures.is c.in-Close.is refl e.1
    (subst (Stands _) (sym (ap (λ (p : Pass). p.outcome) e.0)) c.closed.ensures)
