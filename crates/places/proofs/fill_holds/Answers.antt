use Rattle.places.proofs.Inverse.{none-held}
use Rattle.places.proofs.fill_holds.Goals as goal

pub loop-u-init : goal.loop-u-init
loop-u-init c = none-held c.args.order.now c.requires.1
