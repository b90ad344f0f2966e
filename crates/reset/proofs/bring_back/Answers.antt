-- Each return is a law of Returning, by where the search found the entry.
use mathlib.Core.Path.{◌≡◌, refl, sym, ap, ◌∙◌}
use mathlib.Core.Bool.{Bool}
use mathlib.Core.List.{List}
use Prim.Native.Nat.{ℕ, ◌+◌, ◌*◌, ◌≤◌, ◌<◌}
use native.Mathlib.Omega.{arith}
use lib.Ieee.{Float, lt}
use lib.ListN.{length, get_or}
use Rattle.model.specs.Floats.{float}
use Rattle.model.specs.Entries.{entry_len}
use Rattle.model.specs.Sound.{Packed}
use Rattle.model.specs.Store.{keyed_weighed, weight_of, above_cutoff}
use Rattle.model.specs.declared.Size.{Size}
use Rattle.model.proofs.Groups.{stride-le}
use Rattle.model.proofs.Packed.{within}
use Rattle.changes.proofs.Flips.{loss-is}
use Rattle.seeking.specs.declared.Sought.{Sought}
use Rattle.seeking.proofs.Noting.{packed-within}
use Rattle.places.proofs.Arranged.{at_most}
use Rattle.places.proofs.Walked.{entry_at}
use Rattle.reset.proofs.Returning.{weight-word, Looked, listed_in, place-below, came-merged, came-stored, came-dropped}
use Rattle.reset.proofs.bring_back.Goals as goal

-- the entry lies in the store
inside : (s : Size) (total i : ℕ) (w : List ℕ) → Packed s total w → i < total → i * entry_len s + entry_len s ≤ length w
inside s total i w g h = omega (arith, stride-le (entry_len s) i total h, within s total w g)

-- its weight is above the cutoff, or not
admits : (s : Size) (len i : ℕ) (w : List ℕ) (cutoff v : Float) (b : Bool) → len ≡ entry_len s → v ≡ float (get_or w (i * len) 0) → lt cutoff v ≡ b
    → above_cutoff cutoff (weight_of keyed_weighed (entry_at s w i)) ≡ b
admits s len i w cutoff v b e f t = ap (lt cutoff) (sym (f ∙ ap float (weight-word s len i w e))) ∙ t

pub seek-search-requires-clause-within : goal.seek-search-requires-clause-within
seek-search-requires-clause-within c =
    let r = c.requires.packed in
    (packed-within r.0, omega (arith, r.4, at_most r.0), listed_in r.0 r.4 r.1 r.2, r.3)

pub seek-search-requires-clause-consistent : goal.seek-search-requires-clause-consistent
seek-search-requires-clause-consistent c =
    let a = c.args in
    let r = c.requires.packed in
    let b = c.requires.place_bound in
    rw c.sought_live-sought.ensures (record { inside = inside a.limits.size a.total a.lost.place a.store.now r.0 r.5; few = b.0; below = b.1; key = refl; change = loss-is _ _ _ })

pub returns-then-float_of-limits : goal.returns-then-float_of-limits
returns-then-float_of-limits c =
    let a = c.args in
    let r = c.requires.packed in
    let k = c.sought_live-sought in
    let looked : Looked a.limits.size a.total a.count a.limits.threshold a.lost.place a.lost.qubit a.order.now a.store.now a.keys.now a.firsts.now c.seek-search.result =
    record { packed = r.0; long = r.1; once = r.2; noted = r.3; room = r.4; inside = r.5; apart = r.6; searched = rw k.ensures at c.seek-search.ensures } in
    let v = c.revive in
    let n = c.note in
    came-stored looked c.in_default.is v.new.store v.ensures.1 a.limits.cutoff
    (admits a.limits.size c.entry_len.result a.lost.place a.store.now a.limits.cutoff c.float_of.result _ c.entry_len.ensures c.float_of.ensures c.if-float_of-limits.true) v.ensures.0
    k.result.key (ap (λ (x : Sought). x.key) k.ensures) n.new.keys n.new.firsts n.ensures.0 n.ensures.1

pub returns-in_default : goal.returns-in_default
returns-in_default c =
    let a = c.args in
    let r = c.requires.packed in
    let looked : Looked a.limits.size a.total a.count a.limits.threshold a.lost.place a.lost.qubit a.order.now a.store.now a.keys.now a.firsts.now c.seek-search.result =
    record { packed = r.0; long = r.1; once = r.2; noted = r.3; room = r.4; inside = r.5; apart = r.6; searched = rw c.sought_live-sought.ensures at c.seek-search.ensures } in
    came-dropped looked c.in_default.is a.limits.cutoff
    (admits a.limits.size c.entry_len.result a.lost.place a.store.now a.limits.cutoff c.float_of.result _ c.entry_len.ensures c.float_of.ensures c.if-float_of-limits.false)

pub offset_bounds-order-v : goal.offset_bounds-order-v
offset_bounds-order-v c =
    let a = c.args in
    let r = c.requires.packed in
    let looked : Looked a.limits.size a.total a.count a.limits.threshold a.lost.place a.lost.qubit a.order.now a.store.now a.keys.now a.firsts.now c.seek-search.result =
    record { packed = r.0; long = r.1; once = r.2; noted = r.3; room = r.4; inside = r.5; apart = r.6; searched = rw c.sought_live-sought.ensures at c.seek-search.ensures } in
    omega (arith, place-below looked c.in-Some.v c.in-Some.is, r.4, at_most r.0)

pub bounds-order-v : goal.bounds-order-v
bounds-order-v c =
    let a = c.args in
    let r = c.requires.packed in
    let looked : Looked a.limits.size a.total a.count a.limits.threshold a.lost.place a.lost.qubit a.order.now a.store.now a.keys.now a.firsts.now c.seek-search.result =
    record { packed = r.0; long = r.1; once = r.2; noted = r.3; room = r.4; inside = r.5; apart = r.6; searched = rw c.sought_live-sought.ensures at c.seek-search.ensures } in
    omega (arith, place-below looked c.in-Some.v c.in-Some.is, r.4, at_most r.0)

pub gain-requires : goal.gain-requires
gain-requires c =
    let a = c.args in
    let r = c.requires.packed in
    let looked : Looked a.limits.size a.total a.count a.limits.threshold a.lost.place a.lost.qubit a.order.now a.store.now a.keys.now a.firsts.now c.seek-search.result =
    record { packed = r.0; long = r.1; once = r.2; noted = r.3; room = r.4; inside = r.5; apart = r.6; searched = rw c.sought_live-sought.ensures at c.seek-search.ensures } in
    (r.0, r.2.below c.in-Some.v (place-below looked c.in-Some.v c.in-Some.is), r.5)

pub returns : goal.returns
returns c =
    let a = c.args in
    let r = c.requires.packed in
    let looked : Looked a.limits.size a.total a.count a.limits.threshold a.lost.place a.lost.qubit a.order.now a.store.now a.keys.now a.firsts.now c.seek-search.result =
    record { packed = r.0; long = r.1; once = r.2; noted = r.3; room = r.4; inside = r.5; apart = r.6; searched = rw c.sought_live-sought.ensures at c.seek-search.ensures } in
    let g = c.gain in
    came-merged looked c.in-Some.v c.in-Some.is g.new.store g.ensures.1 a.limits.cutoff g.ensures.0
