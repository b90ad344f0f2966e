use Rattle.std.proofs.Common.{arith}
use Rattle.changes.proofs.ChangeTables.{if_set-times, times-le}
use Rattle.changes.proofs.times_bit.Goals as goal

pub overflow_mul-result : goal.overflow_mul-result
overflow_mul-result c = omega (arith, times-le c.args.b c.args.m c.requires)

pub returns : goal.returns
returns c = if_set-times _ _ c.requires
