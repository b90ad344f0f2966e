-- The run ends with the call's number if that is not 0.
use Rattle.std.proofs.Common.{sym, subst}
use Rattle.second_pass.specs.Lines.{After, refused, unwritten}
use Rattle.second_pass.proofs.Lines.{stood}
use Rattle.second_pass.proofs.second.call.Goals as goal

pub returns-then-a-ne0-clause-stands : goal.returns-then-a-ne0-clause-stands
returns-then-a-ne0-clause-stands c = stood c.make-a.ensures (subst (After _) (sym c.ended.ensures.0) (refused c.if-a-ne0.true))

pub returns-then-not-written-clause-stands : goal.returns-then-not-written-clause-stands
returns-then-not-written-clause-stands c = stood c.make-a.ensures (subst (After _) (sym c.ended-then-not-written.ensures.0) (unwritten c.if-a-ne0.false))
