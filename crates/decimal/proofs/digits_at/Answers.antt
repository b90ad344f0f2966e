use mathlib.Core.Path.{◌≡◌, sym, ap, ◌∙◌}
use Prim.Native.Nat.{ℕ, ◌+◌, ◌*◌, ◌-◌, ◌≤◌}
use native.Mathlib.Omega.{arith}
use lib.ListN.{get_or}
use Rattle.decimal.specs.Digits.{is_digit}
use Rattle.decimal.specs.Bounds.{largest}
use Rattle.decimal.proofs.Runs.{run, left-all, left-none, left-fits, left-large, other-first, past_end}
use Rattle.decimal.proofs.digits_at.Goals as goal
use Rattle.decimal.proofs.digits_at.Goals.{then-d-value, else-d-value}

pub loop-at-init : goal.loop-at-init
loop-at-init c = (omega arith, omega arith, left-all _ _ _)

pub returns-then-not-is_ascii_digit : goal.returns-then-not-is_ascii_digit
unfolding is_digit
returns-then-not-is_ascii_digit c =
    let l = c.loop-at in
    left-none c.args.text.now l.at l.value l.large l.invariant.0 (other-first c.args.text.now l.at (sym c.is_ascii_digit.ensures.value ∙ c.if-not-is_ascii_digit.true) c.loop-at-test.true)
    ∙ l.invariant.2

pub loop-at-preserved : goal.loop-at-preserved
loop-at-preserved c =
    let l = c.loop-at in
    let b : ℕ = get_or c.args.text.now l.at 0 in
    let digit : (48 ≤ b) × (b ≤ 57) = c.if-not-is_ascii_digit.ensures.cases in
    let d : c.from-d.result ≡ b - 48 = c.from-d.ensures in
    elim c.if-d-value.branch [
      | then-d-value w ↦ rw (w.value-is, w.large-is) (omega arith, omega arith, left-large c.args.text.now l.at l.value l.large c.loop-at-test.true digit.0 digit.1 (omega arith) ∙ l.invariant.2)
      | else-d-value w ↦
          let fits : 10 * l.value + (b - 48) ≤ largest = omega arith in
          rw (w.value-is, w.large-is, d) (fits, omega arith, left-fits c.args.text.now l.at l.value l.large c.loop-at-test.true digit.0 digit.1 fits ∙ l.invariant.2)
    ]

pub returns : goal.returns
returns c =
    let l = c.loop-at in
    let ends : c.max.result ≡ l.at = omega arith in
    ap (λ (e : ℕ). run l.value l.large e) ends
    ∙ left-none c.args.text.now l.at l.value l.large l.invariant.0 (past_end c.args.text.now l.at (omega arith)) ∙ l.invariant.2
