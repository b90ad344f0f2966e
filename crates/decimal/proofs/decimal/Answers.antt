use mathlib.Core.Path.{◌≡◌, sym, ◌∙◌, subst}
use mathlib.Core.List.{List}
use Prim.Native.Nat.{ℕ, ◌^◌, ◌<◌}
use native.Mathlib.Omega.{arith}
use lib.ListN.{length}
use lib.Ieee.{Float}
use Rattle.decimal.specs.Decimals.{decimal_at}
use Rattle.decimal.specs.Bounds.{Within}
use Rattle.decimal.specs.declared.answer.Parsed.{Parsed}
use Rattle.decimal.proofs.Ends.{fraction-within, decimal-within}
use Rattle.decimal.proofs.Answers.{fraction-counted, no_number, answered}
use Rattle.decimal.proofs.decimal.Goals as goal

-- what is the right answer ends within the text
right : (text : List ℕ) (from : ℕ) (r : Parsed Float) → r ≡ decimal_at text from → Within from (length text) r.end
right text from r e = subst (λ (d : Parsed Float). Within from (length text) d.end) (sym e) (decimal-within text from)

pub returns-then-s-eq0-clause-value : goal.returns-then-s-eq0-clause-value
returns-then-s-eq0-clause-value c =
    let a = c.args in
    c.refusal.ensures
    ∙ no_number a.text.now a.from c.sign_end-start.result c.sign_end-start.ensures c.significand_at-s.result c.significand_at-s.ensures c.if-s-eq0.true

pub answer_of-requires : goal.answer_of-requires
answer_of-requires c =
    -- fewer digits stand after the point than there are bytes
    let a = c.args in
    omega (arith, c.well_formed.0.1, fraction-counted a.text.now c.sign_end-start.result c.significand_at-s.result c.significand_at-s.ensures, fraction-within a.text.now c.sign_end-start.result)

pub returns-clause-value : goal.returns-clause-value
returns-clause-value c =
    let a = c.args in
    let few : c.significand_at-s.result.after < 2 ^ 63 = omega (arith, c.well_formed.0.1, fraction-counted a.text.now c.sign_end-start.result c.significand_at-s.result c.significand_at-s.ensures, fraction-within a.text.now c.sign_end-start.result) in
    c.answer_of.ensures
    ∙ answered a.text.now a.from c.sign_end-start.result c.sign_end-start.ensures c.significand_at-s.result c.significand_at-s.ensures c.if-s-eq0.false
    c.exponent_at-x.result c.exponent_at-x.ensures c.byte_at.result c.byte_at.ensures few

pub returns-clause-within : goal.returns-clause-within
returns-clause-within c = right c.args.text.now c.args.from c.answer_of.result (returns-clause-value c)
