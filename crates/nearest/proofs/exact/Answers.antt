-- 48 bytes hold the numbers where both powers are small and m is not 0; 288 hold all.
use Rattle.std.proofs.Common.{arith}
use mathlib.Core.Path.{refl}
use lib.Dec.{lit≤, lit<}
use Rattle.nearest.specs.Large.{limit}
use Rattle.nearest.proofs.Sizes.{sized, not-below}
use Rattle.nearest.proofs.exact.Goals as goal

pub exact_within-requires : goal.exact_within-requires
unfolding limit
exact_within-requires c =
    let a = c.args in (
      omega arith,
      sized _ _ _ 48 a.m a.up a.down 24 27 27 refl refl refl c.requires.0 (omega arith) (omega arith) (lit≤ tt) (lit< tt) (lit< tt) (lit< tt)
          (λ _. not-below a.m a.up a.down 24 27 (omega arith) (omega arith) (lit≤ tt)),
    )

pub exact_within-requires-else-m-ne0 : goal.exact_within-requires-else-m-ne0
unfolding limit
exact_within-requires-else-m-ne0 c =
    let a = c.args in
    (omega arith, sized _ _ _ 288 a.m a.up a.down 179 308 342 refl refl refl c.requires.0 c.requires.1 c.requires.2 (lit≤ tt) (lit< tt) (lit< tt) (lit< tt) (λ h. absurd (omega arith)))
