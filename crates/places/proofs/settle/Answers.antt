-- An entry that is not there already stands at a later place: it is exchanged with one that is still to come, or copied.
use native.Mathlib.Omega.{arith}
use Rattle.places.proofs.Arranged.{from-later, by-exchange, by_copy}
use Rattle.places.proofs.settle.Goals as goal

pub swap_entries-requires : goal.swap_entries-requires
swap_entries-requires c =
    let p = c.requires in
    (p.0, from-later p.0 p.1 p.2 p.3 c.if-s-v.false, p.3.below c.args.v p.1)

pub returns-then-x-many : goal.returns-then-x-many
returns-then-x-many c =
    let p = c.requires in
    let k = c.swap_entries.ensures in
    by-exchange p.0 p.1 p.2 p.3 c.if-s-v.false c.if-x-many.true k.0 k.1

pub move_entry-requires : goal.move_entry-requires
move_entry-requires c =
    let p = c.requires in
    (p.0, p.3.below c.args.v p.1, omega (arith, from-later p.0 p.1 p.2 p.3 c.if-s-v.false))

pub returns : goal.returns
returns c =
    let p = c.requires in
    let k = c.move_entry.ensures in
    by_copy p.0 p.1 p.2 p.3 c.if-s-v.false c.if-x-many.false k.packed k.entries
