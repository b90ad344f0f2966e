use Rattle.std.proofs.Common.{◌≡◌, ◌∙◌, arith}
use lib.ListN.{length-set}
use Rattle.trials.specs.Steps.{channels_in}
use Rattle.trials.proofs.Slices.{put-behind, channels-length, channels-at}
use Rattle.trials.proofs.steps.channels_in.Goals as goal

pub loop-i-preserved : goal.loop-i-preserved
loop-i-preserved c =
    let l = c.loop-i in
    let kinds = c.args.kinds.now in
    let rates = c.args.rates.now in (
      length-set l.all l.i _ ∙ l.invariant.0,
      put-behind l.all (channels_in kinds rates) l.i _ c.channel_of.result (omega arith) (omega (arith, channels-length kinds rates c.requires.2))
          (c.channel_of.ensures ∙ channels-at kinds rates l.i _ c.requires.2 (omega arith)) l.invariant.1,
    )

pub returns : goal.returns
returns c =
    let l = c.loop-i in
    let e : c.args.count ≡ l.i = omega arith in
    rw e l.invariant.1
