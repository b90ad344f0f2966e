use Rattle.std.proofs.Common.{arith}
use Rattle.nearest.proofs.exact_within.Goals as goal

pub whole_as_slice-exact_in : goal.whole_as_slice-exact_in
whole_as_slice-exact_in g c = omega arith

pub whole_as_slice-exact_in-2 : goal.whole_as_slice-exact_in-2
whole_as_slice-exact_in-2 g c = omega arith

pub whole_as_slice-exact_in-3 : goal.whole_as_slice-exact_in-3
whole_as_slice-exact_in-3 g c = omega arith
