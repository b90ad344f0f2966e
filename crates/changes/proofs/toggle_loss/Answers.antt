-- 1 << q is 2 ^ q, since q is below 64.
use Rattle.std.proofs.Common.{◌^◌, bit_xor, ap, ◌∙◌, arith}
use native.Mathlib.Nat.{one-mul}
use lib.Pow.{shl_exact}
use Rattle.changes.proofs.toggle_loss.Goals as goal

pub returns : goal.returns
returns c = ap (bit_xor c.args.loss) (shl_exact 1 c.args.q 64 (omega arith) (omega arith) ∙ one-mul (2 ^ c.args.q))
