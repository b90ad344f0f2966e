-- Each return is a law of Merge, on the words that the branch would have.
use mathlib.Core.Path.{sym, ap, ◌∙◌}
use lib.Ieee.{lt}
use Rattle.model.specs.Entries.{words_of, entry_of}
use Rattle.model.specs.Store.{reweighed}
use Rattle.merging.specs.Fates.{count_by}
use Rattle.merging.proofs.Merge.{stored, no_room, dropped}
use Rattle.merging.proofs.Changed.{made, made_holds, made-long}
use Rattle.merging.proofs.store_or_drop.Goals as goal

pub returns-then-count-size : goal.returns-then-count-size
unfolding count_by entry_of words_of reweighed
returns-then-count-size c =
    let a = c.args in
    let size = a.limits.size in
    let g = c.requires.0 in
    let w = a.store.now in
    let h = c.requires.2 in
    let b = made size a.count w g a.branch h in
    let e = c.append_changed.ensures in
    let above = ap (lt a.limits.cutoff) (sym c.float_of.ensures) ∙ c.if-float_of-limits.true in
    (rw e.0 (rw (made_holds size a.count w g a.branch h) at (stored size a.count a.limits.cutoff b w g (made-long size a.count w g a.branch h) above c.if-count-size.true)), e.1)

pub returns-then-float_of-limits : goal.returns-then-float_of-limits
unfolding count_by entry_of words_of reweighed
returns-then-float_of-limits c =
    let a = c.args in
    let size = a.limits.size in
    let g = c.requires.0 in
    let w = a.store.now in
    let h = c.requires.2 in
    let b = made size a.count w g a.branch h in
    let above = ap (lt a.limits.cutoff) (sym c.float_of.ensures) ∙ c.if-float_of-limits.true in
    (rw (made_holds size a.count w g a.branch h) at (no_room size a.count a.limits.cutoff b w g above c.if-count-size.false), c.requires.1)

pub returns : goal.returns
unfolding count_by entry_of words_of reweighed
returns c =
    let a = c.args in
    let size = a.limits.size in
    let g = c.requires.0 in
    let w = a.store.now in
    let h = c.requires.2 in
    let b = made size a.count w g a.branch h in
    let not-above = ap (lt a.limits.cutoff) (sym c.float_of.ensures) ∙ c.if-float_of-limits.false in
    (rw (made_holds size a.count w g a.branch h) at (dropped size a.count a.limits.cutoff b w g not-above), c.requires.1)
