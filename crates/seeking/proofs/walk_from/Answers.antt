use mathlib.Core.Path.{◌∙◌, sym}
use native.Mathlib.Omega.{arith}
use Rattle.model.specs.Changes.{changed_entry, changed_keyed}
use Rattle.seeking.specs.Noted.{seen_at}
use Rattle.seeking.specs.Walk.{sought_in}
use Rattle.seeking.proofs.Noting.{length-gathered, gathered-at}
use Rattle.seeking.proofs.Seeking.{listed_below}
use Rattle.seeking.proofs.Walk.{ended, other_key, unlike, hit}
use Rattle.seeking.proofs.walk_from.Goals as goal

pub alike_changed-requires-clause-parent_bound : goal.alike_changed-requires-clause-parent_bound
alike_changed-requires-clause-parent_bound c = let b = c.requires.consistent.0 in (rw c.entry-parent.ensures.0 b.few, b.below, rw c.entry-parent.ensures.0 b.change)

pub keys-preserved-then-keys-place : goal.keys-preserved-then-keys-place
keys-preserved-then-keys-place c =
    let a = c.args in
    let l = c.keys in
    let b = sought_in a.size a.store.now a.sought in
    let seen = seen_at a.size a.places.now a.store.now in
    other_key
    _ _ _ _ l.compared l.i l.invariant (listed_below a.size a.threshold b a.count seen l.i c.if-count-i.false) (seen l.i) (gathered-at a.count seen l.i _ c.if-count-i.false)
    (λ g. c.if-keys-place.true (c.requires.within.3 l.i c.if-count-i.false ∙ g ∙ sym c.requires.consistent.0.key))

pub keys-preserved : goal.keys-preserved
unfolding changed_keyed changed_entry
keys-preserved c =
    let a = c.args in
    let l = c.keys in
    let b = sought_in a.size a.store.now a.sought in
    let seen = seen_at a.size a.places.now a.store.now in
    unlike
    _ _ _ _ l.compared l.i l.invariant (listed_below a.size a.threshold b a.count seen l.i c.if-count-i.false) (seen l.i) (gathered-at a.count seen l.i _ c.if-count-i.false)
    (sym (c.requires.within.3 l.i c.if-count-i.false) ∙ c.if-keys-place.false ∙ c.requires.consistent.0.key)
    (sym (rw (c.entry_at-e.ensures.0, c.entry-parent.ensures.0) at c.alike_changed.ensures) ∙ c.if-alike_changed.false)

pub returns-then-count-i : goal.returns-then-count-i
returns-then-count-i c =
    let a = c.args in
    ended _ _ _ _ _ _ c.keys.invariant (omega (arith, length-gathered a.count (seen_at a.size a.places.now a.store.now), c.if-count-i.true))

pub returns-then-alike_changed : goal.returns-then-alike_changed
unfolding changed_keyed changed_entry
returns-then-alike_changed c =
    let a = c.args in
    let l = c.keys in
    let b = sought_in a.size a.store.now a.sought in
    let seen = seen_at a.size a.places.now a.store.now in
    hit
    _ _ _ _ l.compared l.i l.invariant (listed_below a.size a.threshold b a.count seen l.i c.if-count-i.false) (seen l.i) (gathered-at a.count seen l.i _ c.if-count-i.false)
    (sym (c.requires.within.3 l.i c.if-count-i.false) ∙ c.if-keys-place.false ∙ c.requires.consistent.0.key)
    (sym (rw (c.entry_at-e.ensures.0, c.entry-parent.ensures.0) at c.alike_changed.ensures) ∙ c.if-alike_changed.true)
