-- The comparison is the definition's, on what the calls ensure.
use Rattle.likeness.proofs.Near.{compared}
use Rattle.likeness.proofs.Value.{looked-up}
use Rattle.likeness.proofs.near_at.Goals as goal

pub returns : goal.returns
returns c a b ea eb ec =
    let v = looked-up c.value_at-value.ensures in
    compared _ a b _ ea eb ec c.float_of.ensures c.float_of-2.ensures v.0 v.1
