use Rattle.model.specs.Calls.{held}
use Rattle.perform.proofs.Records.{looked-pick}
use Rattle.perform.proofs.show_pick.Goals as goal

pub returns : goal.returns
returns c = looked-pick c.args.draw (held c.args.h c.args.store.now) c.pick_known-a.result c.args.out.now c.pick_known-a.ensures c.put_numbers.ensures
