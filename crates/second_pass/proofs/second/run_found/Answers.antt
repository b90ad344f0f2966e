-- A line that was found is run, and without one the pass ends.
use Rattle.passes.specs.Turns.{line, done, too_long, failed, cut}
use Rattle.passes.proofs.Turns.{nothing_read}
use Rattle.second_pass.specs.Lines.{LineRan}
use Rattle.second_pass.proofs.Lines.{same_sum}
use Rattle.second_pass.proofs.second.run_found.Goals as goal

pub returns-in-Line-clause-is : goal.returns-in-Line-clause-is
returns-in-Line-clause-is c = rw c.in-Line.is (line c.run_item.ensures.is)

pub returns-in-End-clause-is : goal.returns-in-End-clause-is
returns-in-End-clause-is c =
    let e = c.ended.ensures in
    nothing_read LineRan _ _ (same_sum c.args.r c.ended.result c.args.store.now e.1) c.in-End.is e.0 done

pub returns-in-TooLong-clause-is : goal.returns-in-TooLong-clause-is
returns-in-TooLong-clause-is c =
    let e = c.ended-in-TooLong.ensures in
    nothing_read LineRan _ _ (same_sum c.args.r c.ended-in-TooLong.result c.args.store.now e.1) c.in-TooLong.is e.0 too_long

pub returns-in-Failed-clause-is : goal.returns-in-Failed-clause-is
returns-in-Failed-clause-is c =
    let e = c.ended-in-Failed.ensures in
    nothing_read LineRan _ _ (same_sum c.args.r c.ended-in-Failed.result c.args.store.now e.1) c.in-Failed.is e.0 failed

pub returns-in-Cut-clause-is : goal.returns-in-Cut-clause-is
returns-in-Cut-clause-is c =
    let e = c.ended-in-Cut.ensures in
    nothing_read LineRan _ _ (same_sum c.args.r c.ended-in-Cut.result c.args.store.now e.1) c.in-Cut.is e.0 cut
