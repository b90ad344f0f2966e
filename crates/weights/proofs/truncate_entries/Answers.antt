-- One law for each of its answers.
use Rattle.weights.proofs.Truncated.{all_left, some-went}
use Rattle.weights.proofs.truncate_entries.Goals as goal

pub returns-then-cut-count : goal.returns-then-cut-count
returns-then-cut-count c =
    let a = c.args in
    let k = c.keep_above-cut.ensures in
    some-went a.size a.count a.cutoff a.store.now k.holds k.taken_value c.if-cut-count.true c.requires.1 c.normalise_entries.ensures

pub returns-else-cut-count : goal.returns-else-cut-count
returns-else-cut-count c =
    let a = c.args in
    let k = c.keep_above-cut.ensures in
    all_left a.size a.count a.cutoff a.store.now k.holds k.taken_value c.if-cut-count.false
