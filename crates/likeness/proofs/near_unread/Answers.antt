-- The coefficients that are the same are near, or none is claimed to be.
use Rattle.std.proofs.Common.{sym, ◌∙◌, arith}
use Rattle.likeness.proofs.Alike.{near_none}
use Rattle.likeness.proofs.Near.{same-near}
use Rattle.likeness.proofs.near_unread.Goals as goal

pub returns-then-indices_rise : goal.returns-then-indices_rise
returns-then-indices_rise c =
    let same = c.leading_same-same.ensures in
    (same.0, same-near _ _ _ _ _ same.0 same.1 c.if-limit.true (sym c.indices_rise.ensures ∙ c.if-indices_rise.true))

pub returns-else-same-gt0 : goal.returns-else-same-gt0
returns-else-same-gt0 c = (omega arith, near_none _ _ _ _)
