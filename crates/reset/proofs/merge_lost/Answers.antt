use Rattle.reset.proofs.Leaves.{lost-merged}
use Rattle.reset.proofs.merge_lost.Goals as goal

pub returns : goal.returns
returns c =
    let g = c.arrange.ensures in
    let m = c.bring_all_back-p in
    let o = c.leave-stay in
    let a = c.args in
    lost-merged a.limits.size a.limits.threshold a.limits.cutoff a.q a.count a.store.now o.result _ _ o.ensures m.result _ _ _ m.ensures g.0 g.1
