-- One block more, or one too many.
use Rattle.std.proofs.Common.{sym, subst}
use Rattle.passes.specs.Turns.{Stands, opened, too_deep}
use Rattle.second_pass.proofs.blocks.opened.Goals as goal

pub returns-then-times-gt0 : goal.returns-then-times-gt0
returns-then-times-gt0 c = subst (Stands _) (sym c.at_depth.ensures) opened

pub returns : goal.returns
returns c = subst (Stands _) (sym c.ended.ensures) too_deep
