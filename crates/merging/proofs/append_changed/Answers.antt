-- The branch's key is noted, and the others are as they were.
use mathlib.Core.List.{[]}
use mathlib.Core.Path.{◌∙◌}
use native.Mathlib.Omega.{arith}
use Rattle.seeking.specs.Noted.{seen_at}
use Rattle.seeking.proofs.Noting.{one-noted}
use Rattle.merging.proofs.Changed.{key-made, appended-keys, appended-last}
use Rattle.merging.proofs.append_changed.Goals as goal

pub returns : goal.returns
returns c =
    let a = c.args in
    let g = c.requires.packed.0 in
    let n = c.requires.packed.1 in
    let inside = c.requires.packed.2 in
    let room = c.requires.packed.3 in
    let w = a.store.now in
    let same = appended-keys a.size a.count w g a.branch inside room in
    let key = key-made a.size a.count w g a.branch inside a.keys.now a.firsts.now n c.requires.changes in
    let last = appended-last a.size a.count w g a.branch inside room in
    let made = rw c.mutation_at-m.ensures at c.make_branch.ensures in
    (made, rw made (one-noted (seen_at a.size [] w) (seen_at a.size [] _) n same (omega (arith, room, g.sized.capacity.high)) (key ∙ last) c.note.ensures.0 c.note.ensures.1))
