-- The calls from here on are none, or the one that is made and those behind it.
use Rattle.std.proofs.Common.{◌≡◌, sym, ◌∙◌}
use Rattle.model.specs.Calls.{held}
use Rattle.circuit.specs.Names.{takes_pairs}
use Rattle.circuit.specs.Targets.{target_at}
use Rattle.passes.proofs.Turns.{not_going, going}
use Rattle.second_pass.proofs.Lines.{none_left, turn-ends, turn-goes-on}
use Rattle.second_pass.proofs.second.run_targets.Goals as goal

pub returns-in_default : goal.returns-in_default
returns-in_default c =
    let a = c.args in
    let l = c.loop-p in
    let seen : c.target-t.result ≡ target_at (takes_pairs a.act) a.line.now l.at = cc in
    let y = held l.run.header l.store in
    let o = l.run.pass.outcome in
    record {
      is = l.invariant.rest y o (none_left a.act a.l.rates a.line.now l.at c.target-t.result seen c.in_default.not-At y o l.invariant.going);
      known = l.invariant.known;
    }

pub returns-then-not-is_going-clause-is : goal.returns-then-not-is_going-clause-is
returns-then-not-is_going-clause-is c =
    let a = c.args in
    let l = c.loop-p in
    let k = c.call-run in
    let s = c.in-At in
    let seen : c.target-t.result ≡ target_at (takes_pairs a.act) a.line.now l.at = cc in
    let y = held k.result.header k.new.store in
    let o = k.result.pass.outcome in
    l.invariant.rest y o
    (turn-ends a.act a.l.rates a.line.now l.at c.target-t.result seen s.p s.q s.is (held l.run.header l.store) y k.ensures.is o k.ensures.stands
    (not_going o (sym c.is_going.ensures ∙ c.if-not-is_going.true)))

pub loop-p-preserved : goal.loop-p-preserved
loop-p-preserved c =
    let a = c.args in
    let l = c.loop-p in
    let k = c.call-run in
    let s = c.in-At in
    let seen : c.target-t.result ≡ target_at (takes_pairs a.act) a.line.now l.at = cc in
    let o = k.result.pass.outcome in
    let g = going o (sym c.is_going.ensures ∙ c.if-not-is_going.false) in
    record {
      known = k.ensures.known;
      going = g;
      rest = λ z u m.
          l.invariant.rest z u
          (turn-goes-on a.act a.l.rates a.line.now l.at c.target-t.result seen s.p s.q s.is (held l.run.header l.store) (held k.result.header k.new.store)
          k.ensures.is o k.ensures.stands g z u m);
    }
