-- The invariant: the OR so far is 0 exactly if the words below i are the same.
use Rattle.std.proofs.Common.{◌≡◌, nat_eq}
use Rattle.model.specs.Lists.{all_below}
use Rattle.branch.specs.Same.{same_word}
use Rattle.branch.proofs.same_words.Given as goal

abbrev pub invariant-loop-i : goal.invariant-loop-i
invariant-loop-i l = nat_eq l.differ 0 ≡ all_below (same_word l.e l.p) l.i
