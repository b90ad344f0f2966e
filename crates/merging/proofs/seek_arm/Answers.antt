-- Where the table says that no entry has the key, the search is over.
use mathlib.Core.List.{[]}
use native.Mathlib.Omega.{arith}
use Rattle.model.specs.Entries.{entry_of, stretch}
use Rattle.model.specs.Keys.{usual_salts}
use Rattle.model.specs.Changes.{changed_keyed}
use Rattle.seeking.specs.Noted.{seen_at}
use Rattle.seeking.proofs.Noting.{gathered-listed}
use Rattle.seeking.proofs.Seeking.{nowhere}
use Rattle.merging.specs.Progress.{mutation_of}
use Rattle.merging.proofs.seek_arm.Goals as goal

pub returns-then-count-first_place : goal.returns-then-count-first_place
returns-then-count-first_place c =
    let a = c.args in
    rw (gathered-listed a.size a.count a.store.now) at
    (nowhere a.size a.threshold (changed_keyed usual_salts a.size.n (mutation_of a.branch) (entry_of a.size (stretch a.size a.store.now a.branch.parent))) a.count (seen_at a.size [] a.store.now) a.keys.now a.firsts.now c.requires.within.3 a.key c.requires.size_in_bounds.3
    (omega arith))
