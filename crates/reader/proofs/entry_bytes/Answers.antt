use mathlib.Core.Path.{◌≡◌, refl, sym, ap, ◌∙◌}
use Prim.Native.Nat.{ℕ, zero, suc, ◌+◌, ◌*◌, ◌/◌, ◌≤◌}
use native.Mathlib.Omega.{arith}
use lib.ListN.{length}
use Rattle.reader.specs.Reading.{lines_on, count_on}
use Rattle.reader.proofs.Lined.{lines_long, field_at}
use Rattle.reader.proofs.Walked.{bytes-there, bytes-missing}
use Rattle.reader.proofs.entry_bytes.Goals as goal

some-line : (m k : ℕ) → k ≡ m * 64 → (k / 64 ≡ 0 → ⊥) → 1 ≤ m
some-line zero k e h = absurd (h (omega arith))
some-line (suc m) k e h = omega arith

pub returns-then-lines-eq0 : goal.returns-then-lines-eq0
returns-then-lines-eq0 c =
    let long : length c.args.text.now ≡ length (lines_on c.args.text.now) * 64 = lines_long c.args.text.now c.requires in
    sym (bytes-missing c.args.size (lines_on c.args.text.now) (omega (arith, long, c.if-lines-eq0.true)))

pub returns-then-left-count : goal.returns-then-left-count
returns-then-left-count c =
    let long : length c.args.text.now ≡ length (lines_on c.args.text.now) * 64 = lines_long c.args.text.now c.requires in
    let there : 1 ≤ length (lines_on c.args.text.now) = some-line (length (lines_on c.args.text.now)) (length c.args.text.now) long c.if-lines-eq0.false in
    let counted : c.number_at-count.result ≡ count_on (lines_on c.args.text.now) = c.number_at-count.ensures _ (field_at c.args.text.now c.requires 42 0 2 refl there (omega arith)) in
    sym (bytes-missing c.args.size (lines_on c.args.text.now) (omega (arith, counted, there, long, c.if-left-count.true)))

pub returns-then-left-count-2 : goal.returns-then-left-count-2
returns-then-left-count-2 c =
    let long : length c.args.text.now ≡ length (lines_on c.args.text.now) * 64 = lines_long c.args.text.now c.requires in
    let there : 1 ≤ length (lines_on c.args.text.now) = some-line (length (lines_on c.args.text.now)) (length c.args.text.now) long c.if-lines-eq0.false in
    let counted : c.number_at-count.result ≡ count_on (lines_on c.args.text.now) = c.number_at-count.ensures _ (field_at c.args.text.now c.requires 42 0 2 refl there (omega arith)) in
    sym (bytes-missing c.args.size (lines_on c.args.text.now) (omega (arith, counted, there, long, c.if-left-count.false, c.if-left-count-2.true)))

pub returns : goal.returns
returns c =
    let long : length c.args.text.now ≡ length (lines_on c.args.text.now) * 64 = lines_long c.args.text.now c.requires in
    let there : 1 ≤ length (lines_on c.args.text.now) = some-line (length (lines_on c.args.text.now)) (length c.args.text.now) long c.if-lines-eq0.false in
    let counted : c.number_at-count.result ≡ count_on (lines_on c.args.text.now) = c.number_at-count.ensures _ (field_at c.args.text.now c.requires 42 0 2 refl there (omega arith)) in
    -- the entry's lines are within those that are left
    let within : 1 + c.number_at-count.result + 2 * c.args.size.n ≤ length (lines_on c.args.text.now) = omega (arith, there, long, c.if-left-count.false, c.if-left-count-2.false) in
    ap (λ (k : ℕ). 64 * (1 + k + 2 * c.args.size.n)) counted
    ∙ sym (bytes-there c.args.size (lines_on c.args.text.now) (omega (arith, within, counted)))
