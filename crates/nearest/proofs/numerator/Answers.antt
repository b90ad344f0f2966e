use Prim.Native.Nat.{◌*◌, ◌^◌, ◌<◌}
use native.Mathlib.Nat.{one-le-pow}
use native.Mathlib.Omega.{arith}
use lib.ListN.{length}
use Rattle.nearest.proofs.Large.{fewer}
use Rattle.nearest.proofs.numerator.Goals as goal

pub put-requires : goal.put-requires
put-requires c =
    let tens-room : c.args.m * 10 ^ c.args.up < 256 ^ length c.args.n.now = fewer (c.args.m * 10 ^ c.args.up) (64 ^ c.args.count) (256 ^ length c.args.n.now) (one-le-pow c.args.count 64 (omega arith)) c.requires in
    fewer c.args.m (10 ^ c.args.up) (256 ^ length c.args.n.now) (one-le-pow c.args.up 10 (omega arith)) tens-room

pub grouped-requires-clause-count_bound : goal.grouped-requires-clause-count_bound
grouped-requires-clause-count_bound c =
    let tens-room : c.args.m * 10 ^ c.args.up < 256 ^ length c.args.n.now = fewer (c.args.m * 10 ^ c.args.up) (64 ^ c.args.count) (256 ^ length c.args.n.now) (one-le-pow c.args.count 64 (omega arith)) c.requires in
    rw (c.put.ensures, c.put.auto.a) tens-room
