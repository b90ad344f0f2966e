use Prim.Native.Nat.{◌^◌}
use native.Mathlib.Omega.{arith}
use Rattle.nearest.proofs.Exacts.{whole-exact, ten-pos, quotient-rounded}
use Rattle.nearest.proofs.small_over.Goals as goal

pub returns : goal.returns
returns c =
    let a = c.args in
    quotient-rounded _ c.power.result a.m (10 ^ a.k) (ten-pos a.k) (whole-exact a.m (omega arith)) c.power.ensures
