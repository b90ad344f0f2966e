use Prim.Native.Nat.{◌^◌}
use native.Mathlib.Omega.{arith}
use Rattle.nearest.proofs.Exacts.{whole-exact, product-rounded}
use Rattle.nearest.proofs.small_times.Goals as goal

pub returns : goal.returns
returns c =
    let a = c.args in
    product-rounded _ c.power.result a.m (10 ^ a.k) (whole-exact a.m (omega arith)) c.power.ensures
