use mathlib.Core.Path.{◌≡◌, sym, ap, ◌∙◌}
use Prim.Native.Nat.{ℕ, ◌-◌}
use native.Mathlib.Omega.{arith}
use lib.ListN.{take}
use Rattle.model.specs.Sheet.{leading, same_words}
use Rattle.fields.proofs.Passes.{column-right, column-wrong, last-right, last-wrong}
use Rattle.fields.proofs.is_field.Goals as goal

pub returns-then-text-v : goal.returns-then-text-v
returns-then-text-v c = last-wrong c.args.text.now c.args.v c.requires c.if-text-v.true

pub loop-i-init : goal.loop-i-init
loop-i-init c = last-right c.args.text.now c.args.v c.requires c.if-text-v.false

pub returns-then-text-i : goal.returns-then-text-i
returns-then-text-i c =
    let l = c.loop-i in
    column-wrong c.args.text.now l.i (l.i - 1) l.rest c.column_of.result (omega arith) (omega arith) c.column_of.ensures c.if-text-i.true ∙ l.invariant

pub loop-i-preserved : goal.loop-i-preserved
loop-i-preserved c =
    let l = c.loop-i in
    column-right c.args.text.now l.i (l.i - 1) l.rest c.column_of.result (omega arith) (omega arith) c.column_of.ensures c.if-text-i.false ∙ l.invariant

pub returns : goal.returns
unfolding leading same_words
returns c =
    let l = c.loop-i in
    let none : l.i ≡ 0 = omega arith in
    sym (ap (λ (k : ℕ). same_words (take k c.args.text.now) (leading k l.rest)) none) ∙ l.invariant
