-- The block is over or gone through again, or there is none.
use Rattle.std.proofs.Common.{sym, subst}
use Rattle.passes.specs.Turns.{Stands, closed, no_repeat}
use Rattle.second_pass.proofs.blocks.closed.Goals as goal

pub returns-then-block-calls : goal.returns-then-block-calls
returns-then-block-calls c = subst (Stands _) (sym c.jumped.ensures) closed

pub returns-then-pass-le64 : goal.returns-then-pass-le64
returns-then-pass-le64 c = subst (Stands _) (sym c.at_depth.ensures) closed

pub returns : goal.returns
returns c = subst (Stands _) (sym c.ended.ensures) no_repeat
