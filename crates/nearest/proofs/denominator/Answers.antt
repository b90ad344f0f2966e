use Prim.Native.Nat.{◌^◌}
use native.Mathlib.Nat.{one-le-pow}
use native.Mathlib.Omega.{arith}
use lib.ListN.{length}
use Rattle.nearest.proofs.Large.{fewer}
use Rattle.nearest.proofs.denominator.Goals as goal

pub put-requires : goal.put-requires
put-requires c =
    let s = c in
    fewer (2 ^ 53) (10 ^ s.args.down) (256 ^ length s.args.v.now) (one-le-pow s.args.down 10 (omega arith)) s.requires
