use mathlib.Core.Path.{sym, ◌∙◌}
use Prim.Native.Nat.{ℕ, ◌<◌}
use native.Mathlib.Omega.{arith}
use lib.ListN.{get_or}
use Rattle.nearest.proofs.Large.{next-byte, below_end, below-is}
use Rattle.nearest.proofs.less.Goals as goal

pub loop-i-preserved : goal.loop-i-preserved
loop-i-preserved c =
    let a = c.args in
    next-byte a.a.now a.b.now c.loop-i.i c.loop-i.below (omega arith) (omega arith) c.by_byte-below.result c.by_byte-below.ensures ∙ c.loop-i.invariant

pub returns : goal.returns
returns c =
    let a = c.args in
    let p : (i : ℕ) → get_or a.a.now i 0 < 256 = λ i. omega (arith, c.type_inv.a i) in
    let q : (i : ℕ) → get_or a.b.now i 0 < 256 = λ i. omega (arith, c.type_inv.b i) in
    sym (below_end a.a.now a.b.now c.loop-i.i c.loop-i.below (omega arith)) ∙ c.loop-i.invariant ∙ below-is a.a.now a.b.now c.requires p q
