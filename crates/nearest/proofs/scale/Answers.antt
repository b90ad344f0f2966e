use mathlib.Core.Path.{◌≡◌, sym, subst}
use Prim.Native.Nat.{ℕ, ◌+◌, ◌*◌, ◌^◌, ◌<◌}
use native.Mathlib.Nat.{lt_of_le_of_lt}
use native.Mathlib.Omega.{arith}
use Rattle.nearest.specs.Large.{value_of, limit}
use Rattle.nearest.proofs.Large.{one_more, few-doublings, all-climbs}
use Rattle.nearest.proofs.scale.Goals as goal

pub returns : goal.returns
returns c =
    let doubled : value_of c.climb-low.new.v ≡ value_of c.args.v.now * 2 ^ (48 * c.climb-high.result + 6 * c.climb-middle.result + c.climb-low.result) = all-climbs _ _ _ _ c.climb-high.result c.climb-middle.result c.climb-low.result c.climb-high.ensures.multiplied c.climb-middle.ensures.multiplied c.climb-low.ensures.multiplied in
    let few : (48 * c.climb-high.result + 6 * c.climb-middle.result + c.climb-low.result) < 2200 = few-doublings (value_of c.args.v.now) (48 * c.climb-high.result + 6 * c.climb-middle.result + c.climb-low.result) c.requires.3
    (subst (λ (z : ℕ). z < limit) doubled (lt_of_le_of_lt c.climb-low.ensures.within c.requires.0.small)) in
    let n = value_of c.args.n.now in
    let x = value_of c.climb-low.new.v in
    let e : value_of c.times.new.a ≡ x * 2 = c.times.ensures in
    let k = few in (
      record {
        doubled = one_more x (value_of c.times.new.a) (value_of c.args.v.now) 2 (48 * c.climb-high.result + 6 * c.climb-middle.result + c.climb-low.result) doubled e;
        above = subst (λ (z : ℕ). n < z) (sym e) c.climb-low.ensures.last;
        first = λ h. omega (arith, e, c.climb-low.ensures.within);
      },
      omega (arith, k),
    )
