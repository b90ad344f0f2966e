-- The steps of a line that was found are gathered, and without one the pass ends.
use Rattle.std.proofs.Common.{sym, subst, take, drop, ◌-◌}
use Rattle.input.specs.declared.Found.{Found}
use Rattle.passes.specs.Turns.{Turn, line, done, too_long, failed, cut}
use Rattle.passes.proofs.Turns.{nothing_read}
use Rattle.step_pass.specs.Gathering.{steps_of, LineGathers}
use Rattle.step_pass.proofs.gather_found.Goals as goal

pub returns-in-Line : goal.returns-in-Line
returns-in-Line c =
    let w = c.args.g.pass.window in
    let text = take (w.to - w.from) (drop w.from c.args.bytes.now) in
    let r = c.gather_item in
    subst (λ (f : Found). Turn LineGathers f text (steps_of c.args.g) (steps_of r.result) r.result.pass.outcome) (sym c.in-Line.is) (line r.ensures)

pub returns-in-End : goal.returns-in-End
returns-in-End c = nothing_read LineGathers _ (steps_of c.ended.result) c.ended.ensures.1 c.in-End.is c.ended.ensures.0 done

pub returns-in-TooLong : goal.returns-in-TooLong
returns-in-TooLong c = let e = c.ended-in-TooLong in nothing_read LineGathers _ (steps_of e.result) e.ensures.1 c.in-TooLong.is e.ensures.0 too_long

pub returns-in-Failed : goal.returns-in-Failed
returns-in-Failed c = let e = c.ended-in-Failed in nothing_read LineGathers _ (steps_of e.result) e.ensures.1 c.in-Failed.is e.ensures.0 failed

pub returns-in-Cut : goal.returns-in-Cut
returns-in-Cut c = let e = c.ended-in-Cut in nothing_read LineGathers _ (steps_of e.result) e.ensures.1 c.in-Cut.is e.ensures.0 cut
