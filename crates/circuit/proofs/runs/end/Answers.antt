use Rattle.std.proofs.Common.{◌≡◌, ◌∙◌, sym, length, arith}
use Rattle.circuit.specs.Runs.{is_of}
use Rattle.circuit.proofs.RunEnds.{run_on, run-stops, run_past}
use Rattle.circuit.proofs.runs.end.Goals as goal

pub loop-i-preserved : goal.loop-i-preserved
loop-i-preserved c =
    run_on (is_of c.args.run) c.args.line.now c.loop-i.i c.loop-i-test.true (sym c.is_of.ensures ∙ c.if-not-is_of.false) ∙ c.loop-i.invariant

pub returns-then-not-is_of-clause-is : goal.returns-then-not-is_of-clause-is
returns-then-not-is_of-clause-is c =
    run-stops (is_of c.args.run) c.args.line.now c.loop-i.i c.loop-i-test.true (sym c.is_of.ensures ∙ c.if-not-is_of.true) ∙ c.loop-i.invariant

pub returns-clause-is : goal.returns-clause-is
returns-clause-is c =
    let e : length c.args.line.now ≡ c.loop-i.i = omega arith in
    e ∙ run_past (is_of c.args.run) c.args.line.now c.loop-i.i (omega arith) ∙ c.loop-i.invariant
