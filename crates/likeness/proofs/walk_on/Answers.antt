use Prim.Native.Nat.{◌+◌}
use Rattle.std.proofs.Common.{refl, arith}
use Rattle.likeness.proofs.Value.{passed-same, passed-more, passed-hit}
use Rattle.likeness.proofs.walk_on.Goals as goal

pub loop-i-preserved : goal.loop-i-preserved
loop-i-preserved c =
    let read = c.args.begun + c.loop-i.i in
    passed-same _ _ _ (read + 1) _ (omega arith) (passed-more _ _ _ read _ refl (omega arith) c.loop-i.invariant c.if-coefs-at.false)

pub returns-then-coefs-at : goal.returns-then-coefs-at
returns-then-coefs-at c =
    (omega arith, omega arith, passed-hit _ _ _ (c.args.begun + c.loop-i.i) _ refl (omega arith) c.loop-i.invariant c.if-coefs-at.true)
