use Rattle.std.proofs.Common.{arith}
use Rattle.checks.proofs.Ors.{unused-next}
use Rattle.checks.proofs.unused_sound.Goals as goal

pub loop-j-preserved : goal.loop-j-preserved
loop-j-preserved c = unused-next c.args.count c.args.coefs.now c.loop-j.any c.loop-j.j c.loop-j.invariant (omega arith)
