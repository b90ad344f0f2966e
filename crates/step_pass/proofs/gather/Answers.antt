-- The lines that were gathered, and the one that was read last.
use Rattle.std.proofs.Common.{sym, subst, ◌∙◌, List}
use Rattle.model.specs.Calls.{Call}
use Rattle.passes.specs.Turns.{Passed}
use Rattle.passes.proofs.Turns.{going, passed_none, passed-next}
use Rattle.step_pass.specs.Gathering.{steps_of, LineGathers}
use Rattle.step_pass.proofs.Whole.{passed-whole}
use Rattle.step_pass.proofs.gather.Goals as goal

pub loop-init : goal.loop-init
loop-init c =
    let s = c.start-g in
    record {
      passed =
          subst (λ (x : List Call). Passed LineGathers x (steps_of s.result) s.result.pass.outcome) s.ensures.1
          (passed_none LineGathers (steps_of s.result) s.result.pass.outcome s.ensures.0);
      going = s.ensures.0;
    }

pub returns-then-not-is_going : goal.returns-then-not-is_going
returns-then-not-is_going c =
    let p = passed-next LineGathers c.loop.invariant.going c.loop.invariant.passed c.gather_line-g.ensures in
    record { lines = p; whole = passed-whole p }

pub loop-preserved : goal.loop-preserved
loop-preserved c =
    let k = c.gather_line-g in
    record {
      passed = passed-next LineGathers c.loop.invariant.going c.loop.invariant.passed k.ensures;
      going = going k.result.pass.outcome (sym c.is_going.ensures ∙ c.if-not-is_going.false);
    }

pub returns : goal.returns
returns c = record { lines = c.loop.invariant.passed; whole = passed-whole c.loop.invariant.passed }
