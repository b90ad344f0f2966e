use Rattle.std.proofs.Common.{refl, ap, ◌∙◌, arith}
use Rattle.model.specs.Numbers.{weight_sound, weights_sound}
use Rattle.checks.proofs.Words.{weight-within, weight-word, one-sound, one-unsound, all-sound}
use Rattle.checks.proofs.weights_sound.Goals as goal

pub loop-i-init : goal.loop-i-init
unfolding weights_sound
loop-i-init c = λ s e. refl

pub overflow_mul-i : goal.overflow_mul-i
overflow_mul-i c = omega (arith, weight-within c.args.size c.args.count c.entry_len-len.result c.loop-i.i c.args.store.now c.entry_len-len.ensures c.loop-i-test.true c.requires.1)

pub offset_bounds-store-i : goal.offset_bounds-store-i
offset_bounds-store-i c = omega (arith, weight-within c.args.size c.args.count c.entry_len-len.result c.loop-i.i c.args.store.now c.entry_len-len.ensures c.loop-i-test.true c.requires.1)

pub bounds-store-i : goal.bounds-store-i
bounds-store-i c = weight-within c.args.size c.args.count c.entry_len-len.result c.loop-i.i c.args.store.now c.entry_len-len.ensures c.loop-i-test.true c.requires.1

pub loop-i-preserved : goal.loop-i-preserved
loop-i-preserved c s e =
    let a = c.args in
    let judged = c.weight_sound.ensures ∙ ap weight_sound (weight-word s a.count _ c.loop-i.i a.store.now e c.loop-i-test.true) in
    one-sound (λ x. weight_sound x.weight) s a.count c.loop-i.i a.store.now c.loop-i-test.true judged c.if-not-weight_sound.false ∙ c.loop-i.invariant s e

pub returns-then-not-weight_sound : goal.returns-then-not-weight_sound
returns-then-not-weight_sound c =
    let a = c.args in
    let e = c.entry_len-len.ensures in
    let judged = c.weight_sound.ensures ∙ ap weight_sound (weight-word a.size a.count _ c.loop-i.i a.store.now e c.loop-i-test.true) in
    one-unsound (λ x. weight_sound x.weight) a.size a.count c.loop-i.i a.store.now c.loop-i-test.true judged c.if-not-weight_sound.true ∙ c.loop-i.invariant a.size e

pub returns : goal.returns
returns c = all-sound (λ x. weight_sound x.weight) c.args.size c.args.count c.loop-i.i c.args.store.now c.loop-i-test.false ∙ c.loop-i.invariant c.args.size c.entry_len-len.ensures
