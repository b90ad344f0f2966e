-- The calls from here on are none, or the one that is taken and those behind it.
use Rattle.std.proofs.Common.{sym, ◌∙◌}
use Rattle.passes.proofs.Turns.{not_going, going}
use Rattle.step_pass.specs.Gathering.{steps_of}
use Rattle.step_pass.proofs.Gathering.{none_left, turn-ends, turn-goes-on}
use Rattle.step_pass.proofs.gather_targets.Goals as goal

pub returns-in_default : goal.returns-in_default
returns-in_default c =
    let a = c.args in
    let l = c.loop-qubit in
    let before = steps_of l.gathered in
    let o = l.gathered.pass.outcome in
    l.invariant.rest before o (none_left a.channel a.l.rates a.line.now l.at c.target-t.result c.target-t.ensures.is c.in_default.not-At before o l.invariant.going)

pub returns-then-not-is_going : goal.returns-then-not-is_going
returns-then-not-is_going c =
    let a = c.args in
    let l = c.loop-qubit in
    let k = c.with_step-gathered in
    let s = c.in-At in
    let o = k.result.pass.outcome in
    l.invariant.rest (steps_of k.result) o
    (turn-ends a.channel a.l.rates a.line.now l.at c.target-t.result c.target-t.ensures.is s.qubit s.field-1 s.is
    (steps_of l.gathered) (steps_of k.result) o k.ensures (not_going o (sym c.is_going.ensures ∙ c.if-not-is_going.true)))

pub loop-qubit-preserved : goal.loop-qubit-preserved
loop-qubit-preserved c =
    let a = c.args in
    let l = c.loop-qubit in
    let k = c.with_step-gathered in
    let s = c.in-At in
    let o = k.result.pass.outcome in
    let g = going o (sym c.is_going.ensures ∙ c.if-not-is_going.false) in
    record {
      going = g;
      rest = λ z u m.
          l.invariant.rest z u
          (turn-goes-on a.channel a.l.rates a.line.now l.at c.target-t.result c.target-t.ensures.is s.qubit s.field-1 s.is
          (steps_of l.gathered) (steps_of k.result) o k.ensures g z u m);
    }
