use mathlib.Core.Path.{◌≡◌, ap, ap₂, ◌∙◌}
use mathlib.Core.List.{List, ◌++◌}
use Prim.Native.Nat.{ℕ, ◌+◌, ◌-◌, ◌*◌}
use native.Mathlib.Omega.{arith}
use lib.ListN.{length, drop, set, take}
use Rattle.model.specs.Floats.{float}
use Rattle.model.proofs.Entries.{part-tail}
use Rattle.table.specs.Pairs.{pairs, heavier}
use Rattle.table.proofs.Words.{heavier-few, pair-inserted}
use Rattle.table.proofs.insert.Goals as goal

pub overflow_mul-end : goal.overflow_mul-end
overflow_mul-end c = omega (arith, c.count_above-end.ensures, heavier-few c.args.m (take (length c.args.part.now - 2) (drop 2 c.args.part.now)) (float c.args.weight))

pub overflow_add-end : goal.overflow_add-end
overflow_add-end c = omega (arith, c.count_above-end.ensures, heavier-few c.args.m (take (length c.args.part.now - 2) (drop 2 c.args.part.now)) (float c.args.weight))

pub copy_within-requires-clause-in_bounds : goal.copy_within-requires-clause-in_bounds
copy_within-requires-clause-in_bounds c = omega (arith, c.count_above-end.ensures, heavier-few c.args.m (take (length c.args.part.now - 2) (drop 2 c.args.part.now)) (float c.args.weight))

pub copy_within-requires-clause-dest_in_bounds : goal.copy_within-requires-clause-dest_in_bounds
copy_within-requires-clause-dest_in_bounds c = omega (arith, c.count_above-end.ensures, heavier-few c.args.m (take (length c.args.part.now - 2) (drop 2 c.args.part.now)) (float c.args.weight))

pub returns : goal.returns
returns c =
    let a = c.args in
    let w = a.part.now in
    let k = c.count_above-end.result in
    let n : 2 * k + 2 - 2 ≡ 2 * k = omega arith in
    let d : 0 + (2 * k + 2 - 2) ≡ 2 * k = omega arith in
    let counted : k ≡ heavier (float a.weight) (pairs a.m (drop 2 w)) = c.count_above-end.ensures ∙ ap (λ (l : List ℕ). heavier (float a.weight) (pairs a.m l)) (part-tail 2 w) in
    ap (λ (v : List ℕ). pairs (a.m + 1) (set (set v (2 * k) a.place) (2 * k + 1) a.weight)) (c.copy_within.ensures.after ∙ ap₂ (λ (i j : ℕ). take i (drop 2 w) ++ drop j w) n d)
    ∙ pair-inserted a.m w a.place a.weight k c.requires.0 counted
