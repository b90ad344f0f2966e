-- No place is given, so each entry stands at its own.
use native.Mathlib.Omega.{arith}
use Rattle.model.specs.Entries.{entry_len}
use Rattle.model.proofs.Groups.{stride-le}
use Rattle.model.proofs.Packed.{within}
use Rattle.seeking.proofs.Noting.{packed-within}
use Rattle.seeking.proofs.note_listed.Goals as goal

pub note_all-requires : goal.note_all-requires
note_all-requires c =
    let a = c.args in
    let g = c.requires.0 in
    (packed-within g, omega (arith, g.room, g.sized.capacity.high), λ i h. omega (arith, stride-le (entry_len a.size) i a.count h, within a.size a.count a.store.now g), c.requires.1, c.requires.2)
