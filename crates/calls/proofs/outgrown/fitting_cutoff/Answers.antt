-- One law for each turn of the search for a cutoff.
use Rattle.std.proofs.Common.{◌≡◌, ◌∙◌, ap, ℕ, ◌-◌, ◌+◌, arith, rules}
use Rattle.model.specs.Floats.{plus}
use Rattle.model.specs.Calls.{held}
use Rattle.calls.specs.Instructions.{call_on}
use Rattle.calls.specs.Outgrown.{fitting, fitting_cutoff}
use Rattle.calls.proofs.Copies.{laid_same}
use Rattle.calls.proofs.Outgrowing.{answer-as, none_left, above-one, fits, fits_not}
use Rattle.calls.proofs.outgrown.fitting_cutoff.Goals as goal

pub loop-init : goal.loop-init
unfolding fitting_cutoff
loop-init c = (c.requires, ap (fitting (call_on c.args.o) (held c.args.h c.args.store.now) 65) c.first_cutoff-cutoff.ensures)

pub returns-then-cutoff : goal.returns-then-cutoff
returns-then-cutoff c =
    above-one (call_on c.args.o) (held c.args.h c.args.store.now) (65 - c.loop.counter) c.loop.cutoff (omega arith) c.if-cutoff.true ∙ c.loop.invariant.1

pub returns-then-a-eq0 : goal.returns-then-a-eq0
returns-then-a-eq0 c =
    let k = call_on c.args.o in
    let x = held c.args.h c.args.store.now in
    fits k x (65 - c.loop.counter) c.loop.cutoff (omega arith) c.if-cutoff.false
    (answer-as k c.answer_on_copy-a.ensures c.with_cutoff-high.ensures (laid_same x.words)) c.if-a-eq0.true
    ∙ c.loop.invariant.1

pub loop-preserved : goal.loop-preserved
loop-preserved c =
    let k = call_on c.args.o in
    let x = held c.args.h c.args.store.now in
    let less : 65 - (c.loop.counter + 1) ≡ 65 - c.loop.counter - 1 = omega arith in (
      search rules,
      ap (λ (n : ℕ). fitting k x n (plus c.loop.cutoff c.loop.cutoff)) less
          ∙ fits_not k x (65 - c.loop.counter) c.loop.cutoff (omega arith) c.if-cutoff.false
          (answer-as k c.answer_on_copy-a.ensures c.with_cutoff-high.ensures (laid_same x.words)) c.if-a-eq0.false
          ∙ c.loop.invariant.1,
    )

pub returns : goal.returns
returns c = none_left (call_on c.args.o) (held c.args.h c.args.store.now) (65 - c.loop.counter) c.loop.cutoff (omega arith) ∙ c.loop.invariant.1
