use Rattle.std.proofs.Common.{◌+◌, ◌*◌, ◌∙◌, ap, arith, length}
use native.Mathlib.Nat.{add-sub_cancel_left}
use borrow.Rule.Slice.PartMut.{mid_len}
use Rattle.model.specs.Demand3.{next}
use Rattle.model.specs.Trials.{plan_of}
use Rattle.model.proofs.Trials.{judged, steps-length}
use Rattle.trials.proofs.Places.{few-judged, places-small, places-within}
use Rattle.trials.proofs.SoFar.{none_so_far, one_more, all_left, all_shown-is, turn-begun}
use Rattle.trials.proofs.run_trials.Goals as goal

pub overflow_mul-words : goal.overflow_mul-words
overflow_mul-words c = omega (arith, few-judged (plan_of c.args.size c.args.threshold c.args.cutoffs.now c.args.channels c.args.qubits c.args.count) _ _ c.requires)

pub loop-i-init : goal.loop-i-init
loop-i-init c = λ many. none_so_far _ c.args.store.now c.args.out.now many _

pub overflow_mul-from : goal.overflow_mul-from
overflow_mul-from c = omega (arith, places-small c.loop-i.i (few-judged (plan_of c.args.size c.args.threshold c.args.cutoffs.now c.args.channels c.args.qubits c.args.count) _ _ c.requires) c.loop-i-test.true)

pub overflow_add-to : goal.overflow_add-to
overflow_add-to c = omega (arith, places-small c.loop-i.i (few-judged (plan_of c.args.size c.args.threshold c.args.cutoffs.now c.args.channels c.args.qubits c.args.count) _ _ c.requires) c.loop-i-test.true)

pub offset_bounds-out-from : goal.offset_bounds-out-from
offset_bounds-out-from c = omega (arith, places-small c.loop-i.i (few-judged (plan_of c.args.size c.args.threshold c.args.cutoffs.now c.args.channels c.args.qubits c.args.count) _ _ c.requires) c.loop-i-test.true)

pub slice_bounds-run_trial-end : goal.slice_bounds-run_trial-end
slice_bounds-run_trial-end c =
    omega
    (arith, places-within c.args.count (length c.args.cutoffs.now) c.loop-i.i (length c.args.out.now) c.loop-i-test.true (judged (plan_of c.args.size c.args.threshold c.args.cutoffs.now c.args.channels c.args.qubits c.args.count) _ _ c.requires).fits)

pub run_trial-header-requires : goal.run_trial-header-requires
run_trial-header-requires c =
    let a = c.args in
    let l = c.loop-i in
    let j = judged (plan_of c.args.size c.args.threshold c.args.cutoffs.now c.args.channels c.args.qubits c.args.count) _ _ c.requires in
    let from = l.i * (2 * a.count) in (
      (turn-begun _ (length a.out.now) a.store.now j l.i c.loop-i-test.true _ l.store _ (omega arith) (ap next c.fresh-a.ensures)).0,
      (few-judged (plan_of c.args.size c.args.threshold c.args.cutoffs.now c.args.channels c.args.qubits c.args.count) _ _ c.requires).steps-64,
      mid_len from (from + 2 * a.count) l.out
          (omega (arith, places-within a.count (length a.cutoffs.now) l.i (length a.out.now) c.loop-i-test.true j.fits))
          ∙ add-sub_cancel_left from (2 * a.count),
    )

pub loop-i-preserved : goal.loop-i-preserved
loop-i-preserved c =
    let a = c.args in
    let l = c.loop-i in
    let b = turn-begun _ (length a.out.now) a.store.now (judged (plan_of c.args.size c.args.threshold c.args.cutoffs.now c.args.channels c.args.qubits c.args.count) _ _ c.requires) l.i c.loop-i-test.true _ l.store _ (omega arith) (ap next c.fresh-a.ensures) in
    λ m. one_more _ a.store.now a.out.now m l.i _ l.out (l.invariant m) c.loop-i-test.true _ _ _ b.1 c.run_trial-header.ensures.left c.run_trial-header.ensures.shown

-- there are as many steps as are said
pub returns-clause-left : goal.returns-clause-left
returns-clause-left c =
    let a = c.args in
    let l = c.loop-i in
    let b = few-judged (plan_of c.args.size c.args.threshold c.args.cutoffs.now c.args.channels c.args.qubits c.args.count) _ _ c.requires in
    let many = steps-length a.count a.channels a.qubits (omega (arith, b.steps-64)) (omega (arith, b.steps-64)) in
    all_left _ a.store.now a.out.now many l.i _ l.out (l.invariant many) (omega arith) (λ z. omega (arith, z, b.some-cutoffs))

pub returns-clause-shown : goal.returns-clause-shown
returns-clause-shown c =
    let a = c.args in
    let l = c.loop-i in
    let b = few-judged (plan_of c.args.size c.args.threshold c.args.cutoffs.now c.args.channels c.args.qubits c.args.count) _ _ c.requires in
    let many = steps-length a.count a.channels a.qubits (omega (arith, b.steps-64)) (omega (arith, b.steps-64)) in
    all_shown-is _ a.store.now a.out.now many l.i _ l.out (l.invariant many) (omega arith)
