use Rattle.std.proofs.Common.{◌≡◌, ◌+◌, ◌-◌, sym, arith, lt-ltb, le-ltb}
use Rattle.model.proofs.Lists.{all_of, all-not}
use Rattle.likeness.specs.Rising.{rising}
use Rattle.likeness.proofs.indices_rise.Goals as goal

pub returns-then-coefs-j : goal.returns-then-coefs-j
unfolding rising
returns-then-coefs-j c =
    let e : c.loop-j.j - 1 + 1 ≡ c.loop-j.j = omega arith in
    sym (all-not _ _ (c.loop-j.j - 1) (omega arith) (le-ltb _ _ (rw e c.if-coefs-j.true)))

pub returns : goal.returns
unfolding rising
returns c = sym (all_of _ _ (λ k h. lt-ltb _ _ (c.loop-j.invariant k (omega arith))))
