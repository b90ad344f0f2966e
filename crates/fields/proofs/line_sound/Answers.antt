use mathlib.Core.Path.{◌≡◌, ap, ◌∙◌}
use mathlib.Core.Bool.{not}
use Prim.Native.Nat.{ℕ, ◌+◌, ◌*◌, ◌-◌}
use native.Mathlib.Omega.{arith}
use lib.ListN.{take, drop}
use Rattle.model.specs.Sheet.{columns, field_value, line_fields}
use Rattle.fields.specs.Read.{is_some}
use Rattle.fields.proofs.Tested.{line_from, field-tested, field-passed, field-failed, line-ended}
use Rattle.fields.proofs.line_sound.Goals as goal

pub returns-then-is_none : goal.returns-then-is_none
returns-then-is_none c =
    let j = c.loop-j.j in
    let t = c.args.text.now in
    let k : 21 * j + 21 - 21 * j ≡ columns = omega arith in
    field-failed c.args.m j (21 * j) t c.loop-j-test.true
    (field-tested c.read_field.result (take columns (drop (21 * j) t)) (c.read_field.ensures ∙ ap (λ (n : ℕ). field_value (take n (drop (21 * j) t))) k)
    ∙ c.is_none.ensures ∙ ap not c.if-is_none.true)
    ∙ c.loop-j.invariant

pub loop-j-preserved : goal.loop-j-preserved
loop-j-preserved c =
    let j = c.loop-j.j in
    let t = c.args.text.now in
    let k : 21 * j + 21 - 21 * j ≡ columns = omega arith in
    let next : 21 * (j + 1) ≡ 21 * j + 21 = omega arith in
    ap (λ (n : ℕ). is_some (line_fields (c.args.m - (j + 1)) (drop n t))) next
    ∙ field-passed c.args.m j (21 * j) t c.loop-j-test.true
    (field-tested c.read_field.result (take columns (drop (21 * j) t)) (c.read_field.ensures ∙ ap (λ (n : ℕ). field_value (take n (drop (21 * j) t))) k)
    ∙ c.is_none.ensures ∙ ap not c.if-is_none.false)
    ∙ c.loop-j.invariant

pub returns : goal.returns
returns c =
    let m = c.args.m in
    let t = c.args.text.now in
    let whole : m ≡ c.loop-j.j = omega arith in
    line-ended m m (21 * m) t (omega arith) (omega arith) ∙ ap (λ (k : ℕ). line_from m k (21 * k) t) whole ∙ c.loop-j.invariant
