use Rattle.std.proofs.Common.{ℕ, List, [], length, sym, ap, ◌∙◌, arith}
use Rattle.model.specs.Entries.{entry_len, entry_of, strip}
use Rattle.model.proofs.Groups.{stride-le}
use Rattle.model.proofs.Entries.{length-stretch, stripped-at}
use Rattle.checks.specs.Sound.{entry_sound}
use Rattle.checks.proofs.Words.{entries-one-pass, one-sound, one-unsound, all-sound, lent-stretch}
use Rattle.checks.proofs.entries_sound.Goals as goal

pub loop-i-init : goal.loop-i-init
loop-i-init c = sym (entries-one-pass _ _)

pub stretch-requires : goal.stretch-requires
stretch-requires c = rw c.entry_len-len.ensures (omega (arith, stride-le (entry_len c.args.size) c.loop-i.i _ c.loop-i-test.true))

pub entry_sound-requires : goal.entry_sound-requires
entry_sound-requires c =
    (c.requires.0, ap length (lent-stretch c.args.size _ _ _ _ c.entry_len-len.ensures c.stretch.ensures) ∙ length-stretch c.args.size c.args.store.now c.loop-i.i c.args.count c.requires.1 c.loop-i-test.true)

pub loop-i-preserved : goal.loop-i-preserved
loop-i-preserved c =
    let a = c.args in
    let judged =
    c.entry_sound.ensures ∙ ap (λ (w : List ℕ). entry_sound a.size (strip (entry_of a.size w))) (lent-stretch c.args.size _ _ _ _ c.entry_len-len.ensures c.stretch.ensures)
    ∙ ap (entry_sound a.size) (sym (stripped-at a.size a.count c.loop-i.i a.store.now (strip (entry_of a.size [])) c.loop-i-test.true)) in
    one-sound (entry_sound a.size) a.size a.count c.loop-i.i a.store.now c.loop-i-test.true judged c.if-not-entry_sound.false ∙ c.loop-i.invariant

pub returns-then-not-entry_sound : goal.returns-then-not-entry_sound
returns-then-not-entry_sound c =
    let a = c.args in
    let judged =
    c.entry_sound.ensures ∙ ap (λ (w : List ℕ). entry_sound a.size (strip (entry_of a.size w))) (lent-stretch c.args.size _ _ _ _ c.entry_len-len.ensures c.stretch.ensures)
    ∙ ap (entry_sound a.size) (sym (stripped-at a.size a.count c.loop-i.i a.store.now (strip (entry_of a.size [])) c.loop-i-test.true)) in
    one-unsound (entry_sound a.size) a.size a.count c.loop-i.i a.store.now c.loop-i-test.true judged c.if-not-entry_sound.true ∙ c.loop-i.invariant

pub returns : goal.returns
returns c = all-sound (entry_sound c.args.size) c.args.size c.args.count c.loop-i.i c.args.store.now c.loop-i-test.false ∙ c.loop-i.invariant
