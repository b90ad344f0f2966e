-- The XOR of the entry's two stored keys and the mask of the loss is the key of the live entry.
use Rattle.reset.proofs.Revived.{live-key-is}
use Rattle.reset.proofs.live_key.Goals as goal

pub returns : goal.returns
returns c = let a = c.args in live-key-is a.size a.q a.store.now a.i c.entry-e.ensures.0 c.loss_change-change.ensures
