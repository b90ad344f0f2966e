-- Neither 1 nor 2 applies, so the listed entries end within the store.
use Rattle.std.proofs.Common.{sym, ◌∙◌, arith}
use Rattle.model.specs.Calls.{held}
use Rattle.model.proofs.Known.{known-checked, known-words}
use Rattle.checks.proofs.First.{lent-within, past-within, past-zero}
use Rattle.checks.proofs.words_sound.Goals as goal

pub weights_sound-requires : goal.weights_sound-requires
weights_sound-requires c = lent-within (held c.args.h c.args.store.now) c.requires.0

pub returns-then-known : goal.returns-then-known
returns-then-known c = c.weights_sound.ensures ∙ sym (known-words _ (known-checked _ _ c.requires.1 c.if-known.true))

pub entry_len-requires : goal.entry_len-requires
entry_len-requires c = (lent-within (held c.args.h c.args.store.now) c.requires.0).0

pub overflow_mul-past : goal.overflow_mul-past
overflow_mul-past c = omega (arith, past-within (held c.args.h c.args.store.now) c.requires.0 _ c.entry_len.ensures)

pub offset_bounds-store-past : goal.offset_bounds-store-past
offset_bounds-store-past c = omega (arith, past-within (held c.args.h c.args.store.now) c.requires.0 _ c.entry_len.ensures)

pub slice_bounds-all_zero-count : goal.slice_bounds-all_zero-count
slice_bounds-all_zero-count c = past-within (held c.args.h c.args.store.now) c.requires.0 _ c.entry_len.ensures

pub slice_bounds-all_zero-start : goal.slice_bounds-all_zero-start
slice_bounds-all_zero-start c = omega (arith, past-within (held c.args.h c.args.store.now) c.requires.0 _ c.entry_len.ensures)

pub entries_sound-requires : goal.entries_sound-requires
entries_sound-requires c = lent-within (held c.args.h c.args.store.now) c.requires.0

pub returns-then-all_zero : goal.returns-then-all_zero
returns-then-all_zero c =
    rw (← past-zero (held c.args.h c.args.store.now) c.requires.0 _ c.entry_len.ensures c.all_zero.ensures, c.if-all_zero.true) c.entries_sound.ensures

pub returns-else-all_zero : goal.returns-else-all_zero
returns-else-all_zero c =
    rw (← past-zero (held c.args.h c.args.store.now) c.requires.0 _ c.entry_len.ensures c.all_zero.ensures, c.if-all_zero.false)
