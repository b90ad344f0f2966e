use mathlib.Core.Path.{◌≡◌, sym}
use Prim.Native.Nat.{ℕ, ◌+◌, ◌*◌}
use native.Mathlib.Nat.{mul-zero}
use native.Mathlib.Omega.{arith}
use lib.ListN.{length-set}
use Rattle.nearest.proofs.Large.{product-next, product-end, product_whole}
use Rattle.nearest.proofs.put.Goals as goal

carried : (x m : ℕ) → m ≡ x * 0 + m
carried x m = omega (arith, mul-zero x)

pub loop-byte-preserved : goal.loop-byte-preserved
loop-byte-preserved c =
    let l = c.loop-byte in
    (simp length-set l.invariant.0, product-next 0 _ l.byte-index l.rest l.a _ (carried _ _) (omega arith) l.invariant.1)

pub returns : goal.returns
returns c =
    let l = c.loop-byte in
    product_whole 0 c.args.m c.args.m c.args.a.now l.a (product-end 0 _ l.byte-index l.rest l.a (omega arith) l.invariant.1) (sym (carried _ _)) c.requires
