-- A word is below 2^64.
use mathlib.Core.Path.{sym}
use Prim.Native.Nat.{◌^◌}
use native.Mathlib.Nat.{lt_of_lt_of_le, div-eq_of_lt}
use native.Mathlib.Omega.{arith}
use lib.Pow.{pow_mono}
use Rattle.page.proofs.share.cut.Goals as goal

pub returns-else-places-lt64 : goal.returns-else-places-lt64
returns-else-places-lt64 c = sym (div-eq_of_lt (lt_of_lt_of_le {m = 2 ^ 64} (omega arith) (pow_mono c.if-places-lt64.false)))
