use Prim.Native.Nat.{ℕ, ◌*◌, ◌≤◌}
use mathlib.Core.Path.{refl, ap}
use native.Mathlib.Nat.{add-zero, mul-le-mul_right}
use native.Mathlib.Omega.{arith}
use lib.ListN.{get_or, length-set}
use Rattle.nearest.proofs.Large.{product-next, product-end, product_whole}
use Rattle.nearest.proofs.times.Goals as goal

pub loop-byte-preserved : goal.loop-byte-preserved
loop-byte-preserved c =
    let l = c.loop-byte in
    -- one byte's product is at most 255 times the factor
    let b : get_or l.a l.byte-index 0 ≤ 255 = omega arith in
    (simp length-set l.invariant.0, omega (arith, mul-le-mul_right c.args.factor b, ap (λ (x : ℕ). x * c.args.factor) c.from.ensures), rw c.from.ensures (product-next _ _ l.byte-index l.carry l.a _ refl (omega arith) l.invariant.2))

pub returns : goal.returns
returns c =
    let l = c.loop-byte in
    product_whole c.args.factor 0 _ c.args.a.now l.a (product-end c.args.factor _ l.byte-index l.carry l.a (omega arith) l.invariant.2) (add-zero _) c.requires.1
