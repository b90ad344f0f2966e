use mathlib.Core.Path.{◌≡◌, sym, subst}
use mathlib.Core.List.{List}
use Prim.Native.Nat.{ℕ}
use lib.ListN.{length}
use Rattle.decimal.specs.Wholes.{whole_at}
use Rattle.decimal.specs.Bounds.{Within}
use Rattle.decimal.specs.declared.answer.Parsed.{Parsed}
use Rattle.decimal.proofs.Ends.{whole-within}
use Rattle.decimal.proofs.Parts.{no_digit, large-whole, whole-read}
use Rattle.decimal.proofs.whole.Goals as goal

-- what is the right answer ends within the text
right : (text : List ℕ) (from : ℕ) (r : Parsed ℕ) → r ≡ whole_at text from → Within from (length text) r.end
right text from r e = subst (λ (w : Parsed ℕ). Within from (length text) w.end) (sym e) (whole-within text from)

pub returns-then-run-from-clause-value : goal.returns-then-run-from-clause-value
returns-then-run-from-clause-value c = no_digit c.args.text.now c.args.from c.digits_at-run.result c.digits_at-run.ensures c.if-run-from.true

pub returns-then-run-clause-value : goal.returns-then-run-clause-value
returns-then-run-clause-value c = large-whole c.args.text.now c.args.from c.digits_at-run.result c.digits_at-run.ensures c.if-run-from.false c.if-run.true

pub returns-then-run-clause-within : goal.returns-then-run-clause-within
returns-then-run-clause-within c = right c.args.text.now c.args.from _ (returns-then-run-clause-value c)

pub returns-clause-value : goal.returns-clause-value
returns-clause-value c = whole-read c.args.text.now c.args.from c.digits_at-run.result c.digits_at-run.ensures c.if-run-from.false c.if-run.false

pub returns-clause-within : goal.returns-clause-within
returns-clause-within c = right c.args.text.now c.args.from _ (returns-clause-value c)
