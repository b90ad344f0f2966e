-- The walk begins where the table says, or is over.
use native.Mathlib.Omega.{arith}
use Rattle.seeking.proofs.Seeking.{begins, nowhere}
use Rattle.seeking.proofs.seek.Goals as goal

pub returns-then-count-first : goal.returns-then-count-first
returns-then-count-first c = nowhere _ _ _ _ _ _ _ c.requires.within.3 c.args.sought.key c.requires.consistent.key (omega arith)

pub walk_from-requires-clause-consistent : goal.walk_from-requires-clause-consistent
walk_from-requires-clause-consistent c =
    let first = c.first_place-first.ensures in
    (c.requires.consistent, rw first (begins _ _ _ _ _ _ _ c.requires.within.3 c.args.sought.key c.requires.consistent.key (omega arith)))
