use mathlib.Core.Path.{◌≡◌, sym, ◌∙◌, ap}
use mathlib.Core.List.{◌++◌}
use Prim.Native.Nat.{ℕ, ◌-◌, ◌+◌, ◌%◌}
use native.Mathlib.Omega.{arith}
use lib.ListN.{length, drop, length-set}
use Rattle.model.specs.Sheet.{blank, digit, leading, justified}
use Rattle.sheet.proofs.Written.{blank-column, digit-column}
use Rattle.sheet.proofs.put_number.Goals as goal

pub loop-i-preserved-then-rest-eq0 : goal.loop-i-preserved-then-rest-eq0
loop-i-preserved-then-rest-eq0 c =
    let l = c.loop-i in
    let e : l.i ≡ (l.i - 1) + 1 = omega arith in
    (omega (arith, length-set l.out (l.i - 1) blank), length-set l.out (l.i - 1) _ ∙ l.invariant.1, blank-column l.out l.i (l.i - 1) l.rest e (omega arith) c.if-rest-eq0.true ∙ l.invariant.2)

pub loop-i-preserved : goal.loop-i-preserved
loop-i-preserved c =
    let l = c.loop-i in
    let e : l.i ≡ (l.i - 1) + 1 = omega arith in
    (omega (arith, length-set l.out (l.i - 1) (digit (l.rest % 10))), length-set l.out (l.i - 1) _ ∙ l.invariant.1, digit-column l.out l.i (l.i - 1) l.rest e (omega arith) c.if-rest-eq0.false ∙ l.invariant.2)

pub returns : goal.returns
unfolding leading
returns c =
    let l = c.loop-i in
    let z : l.i ≡ 0 = omega arith in
    let a = c.args in
    sym (ap (λ (k : ℕ). leading k l.rest ++ drop k l.out) z) ∙ l.invariant.2 ∙ ap (λ (k : ℕ). justified k a.v) (length-set a.out.now (length a.out.now - 1) _)
