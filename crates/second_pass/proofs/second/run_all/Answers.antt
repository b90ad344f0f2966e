-- The lines that were run, and the one that was read last.
use Rattle.std.proofs.Common.{sym, subst, ◌∙◌}
use Rattle.model.specs.Calls.{held}
use Rattle.model.specs.declared.Header.{Header}
use Rattle.passes.specs.Turns.{Passed}
use Rattle.passes.proofs.Turns.{going, passed_none, passed-next}
use Rattle.second_pass.specs.Lines.{LineRan}
use Rattle.second_pass.proofs.Lines.{known_as}
use Rattle.second_pass.proofs.second.run_all.Goals as goal

pub loop-init : goal.loop-init
loop-init c =
    let s = c.start-r in
    record {
      known = known_as c.args.known s.result.known c.args.header s.result.header c.args.store.now s.ensures.2 s.ensures.1 c.requires;
      passed = passed_none LineRan (held s.result.header c.args.store.now) s.result.pass.outcome s.ensures.0;
      going = s.ensures.0;
    }

pub returns-then-not-is_going : goal.returns-then-not-is_going
returns-then-not-is_going c =
    let k = c.run_line-r in
    subst (λ (h : Header). Passed LineRan (held h c.args.store.now) (held k.result.header k.new.store) k.result.pass.outcome) c.start-r.ensures.1
    (passed-next LineRan c.loop.invariant.going c.loop.invariant.passed k.ensures.is)

pub loop-preserved : goal.loop-preserved
loop-preserved c =
    let k = c.run_line-r in
    record {
      known = k.ensures.known;
      passed = passed-next LineRan c.loop.invariant.going c.loop.invariant.passed k.ensures.is;
      going = going k.result.pass.outcome (sym c.is_going.ensures ∙ c.if-not-is_going.false);
    }
