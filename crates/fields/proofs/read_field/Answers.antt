use mathlib.Core.Bool.{true, false}
use native.Mathlib.Omega.{arith}
use Rattle.fields.proofs.Values.{sound-read, large-read}
use Rattle.fields.proofs.read_field.Goals as goal

pub returns-in_err-v : goal.returns-in_err-v
returns-in_err-v c = rw c.from_residual.ensures (large-read c.args.text.now c.in_err-v.ensures)

pub returns-then-is_field : goal.returns-then-is_field
returns-then-is_field c = sound-read c.args.text.now true c.in_ok-v.v (omega arith) c.in_ok-v.ensures c.if-is_field.ensures

pub returns-else-is_field : goal.returns-else-is_field
returns-else-is_field c = sound-read c.args.text.now false c.in_ok-v.v (omega arith) c.in_ok-v.ensures c.if-is_field.ensures
