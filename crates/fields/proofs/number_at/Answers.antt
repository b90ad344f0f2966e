use mathlib.Core.Path.{◌≡◌, ap, ◌∙◌}
use Prim.Native.Nat.{ℕ, ◌+◌, ◌-◌}
use native.Mathlib.Omega.{arith}
use lib.ListN.{take, drop}
use Rattle.model.specs.Sheet.{columns, field_value}
use Rattle.fields.proofs.Values.{digits-read}
use Rattle.fields.proofs.number_at.Goals as goal

pub returns : goal.returns
returns c = λ v e.
    let a = c.args in
    let k : a.at + 21 - a.at ≡ columns = omega arith in
    c.unwrap_or.ensures ∙ digits-read _ c.digits_value.result v (ap (λ (n : ℕ). field_value (take n (drop a.at a.text.now))) k ∙ e) c.digits_value.ensures
