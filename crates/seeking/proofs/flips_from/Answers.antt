-- The low bits where r is 0, and the high ones where it is not.
use Rattle.std.proofs.Common.{ℕ, zero, suc, ◌≡◌, refl, arith}
use Rattle.seeking.specs.Parts.{flips_from}
use Rattle.changes.specs.declared.Change.{Change}
use Rattle.seeking.proofs.flips_from.Goals as goal

high : (c : Change) (r : ℕ) → (r ≡ 0 → ⊥) → c.high ≡ flips_from c r
unfolding flips_from
high c zero h = absurd (h refl)
high c (suc r) h = refl

pub returns-then-r-eq0 : goal.returns-then-r-eq0
unfolding flips_from
returns-then-r-eq0 c = rw c.if-r-eq0.true refl

pub returns-else-r-eq0 : goal.returns-else-r-eq0
returns-else-r-eq0 c = high c.args.c c.args.r (omega arith)
