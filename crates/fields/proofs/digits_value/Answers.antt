use mathlib.Core.Path.{◌≡◌, sym, ◌∙◌}
use Prim.Native.Nat.{ℕ, ◌+◌, ◌*◌, ◌^◌, ◌≤◌}
use native.Mathlib.Omega.{arith}
use lib.ListN.{drop}
use Rattle.model.specs.Sheet.{value_from}
use Rattle.fields.proofs.Passes.{blank-passed, digit-passed, value-least, value-end}
use Rattle.fields.proofs.digits_value.Goals as goal
use Rattle.fields.proofs.digits_value.Goals.{then-b-ne32+else-d-v, else-b-ne32}

pub returns-then-d-v : goal.returns-then-d-v
returns-then-d-v c =
    let l = c.loop-b in
    let t = c.args.text.now in
    let next : ℕ = 10 * l.v + c.digit_of-d.result in
    let passed : value_from next (drop (l.b-index + 1) t) ≡ value_from 0 t = digit-passed t l.b-index l.v (omega arith) c.digit_of-d.result c.if-b-ne32.true c.digit_of-d.ensures ∙ l.invariant in
    let grown : 2 ^ 64 ≤ next = omega arith in
    omega (arith, value-least next (drop (l.b-index + 1) t), passed)

pub loop-b-preserved : goal.loop-b-preserved
loop-b-preserved c =
    let l = c.loop-b in
    let t = c.args.text.now in
    elim c.if-b-ne32.branch [
      | then-b-ne32+else-d-v w ↦ rw w.v-is (digit-passed t l.b-index l.v (omega arith) w.digit_of-d.result w.if-b-ne32.true w.digit_of-d.ensures ∙ l.invariant)
      | else-b-ne32 w ↦ rw w.v-is (blank-passed t l.b-index l.v (omega arith) w.if-b-ne32.false ∙ l.invariant)
    ]

pub returns : goal.returns
returns c =
    let l = c.loop-b in
    sym (value-end c.args.text.now l.b-index l.v (omega arith)) ∙ l.invariant
