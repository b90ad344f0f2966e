-- The steps of a channel are gathered, and any other instruction ends the pass.
use Rattle.step_pass.proofs.Gathering.{of-channel, of-no-channel}
use Rattle.step_pass.proofs.gather_call.Goals as goal

pub returns-in-Channel : goal.returns-in-Channel
returns-in-Channel c =
    let a = c.args in
    of-channel a.act a.l.rates a.line.now a.l.targets c.in-Channel.channel c.in-Channel.is c.gather_targets.ensures

pub returns-in_default : goal.returns-in_default
returns-in_default c =
    let a = c.args in
    of-no-channel a.act a.l.rates a.line.now a.l.targets c.in_default.not-Channel c.ended.ensures.1 c.ended.ensures.0
