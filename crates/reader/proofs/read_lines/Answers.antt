use mathlib.Core.Path.{refl}
use Prim.Native.Nat.{◌+◌, ◌*◌, ◌≤◌, ◌<◌}
use native.Mathlib.Omega.{arith}
use lib.ListN.{length, length-set}
use Rattle.model.specs.Lists.{joined}
use Rattle.reader.specs.Reading.{lines_on}
use Rattle.reader.proofs.Lined.{lines_long, field_at, line-is, line-written}
use Rattle.reader.proofs.read_lines.Goals as goal

pub loop-i-init : goal.loop-i-init
unfolding joined
loop-i-init c = (refl, refl)

pub overflow_mul-at : goal.overflow_mul-at
overflow_mul-at c =
    -- the line that is read in this turn
    let there : c.loop-i.i < length (lines_on c.args.text.now) = omega (arith, c.loop-i-test.true, c.requires.1) in
    let bytes : 64 * c.loop-i.i + 64 ≤ length c.args.text.now = omega (arith, there, lines_long c.args.text.now c.requires.0) in
    omega (arith, bytes)

pub number_at-a-requires : goal.number_at-a-requires
number_at-a-requires c =
    -- the line that is read in this turn
    let there : c.loop-i.i < length (lines_on c.args.text.now) = omega (arith, c.loop-i-test.true, c.requires.1) in
    let bytes : 64 * c.loop-i.i + 64 ≤ length c.args.text.now = omega (arith, there, lines_long c.args.text.now c.requires.0) in
    omega (arith, bytes)

pub overflow_add-at : goal.overflow_add-at
overflow_add-at c =
    -- the line that is read in this turn
    let there : c.loop-i.i < length (lines_on c.args.text.now) = omega (arith, c.loop-i-test.true, c.requires.1) in
    let bytes : 64 * c.loop-i.i + 64 ≤ length c.args.text.now = omega (arith, there, lines_long c.args.text.now c.requires.0) in
    omega (arith, bytes)

pub number_at-b-requires : goal.number_at-b-requires
number_at-b-requires c =
    -- the line that is read in this turn
    let there : c.loop-i.i < length (lines_on c.args.text.now) = omega (arith, c.loop-i-test.true, c.requires.1) in
    let bytes : 64 * c.loop-i.i + 64 ≤ length c.args.text.now = omega (arith, there, lines_long c.args.text.now c.requires.0) in
    omega (arith, bytes)

pub overflow_add-at-in-loop-i : goal.overflow_add-at-in-loop-i
overflow_add-at-in-loop-i c =
    -- the line that is read in this turn
    let there : c.loop-i.i < length (lines_on c.args.text.now) = omega (arith, c.loop-i-test.true, c.requires.1) in
    let bytes : 64 * c.loop-i.i + 64 ≤ length c.args.text.now = omega (arith, there, lines_long c.args.text.now c.requires.0) in
    omega (arith, bytes)

pub number_at-c-requires : goal.number_at-c-requires
number_at-c-requires c =
    -- the line that is read in this turn
    let there : c.loop-i.i < length (lines_on c.args.text.now) = omega (arith, c.loop-i-test.true, c.requires.1) in
    let bytes : 64 * c.loop-i.i + 64 ≤ length c.args.text.now = omega (arith, there, lines_long c.args.text.now c.requires.0) in
    omega (arith, bytes)

pub loop-i-preserved : goal.loop-i-preserved
loop-i-preserved c =
    -- the line that is read in this turn
    let there : c.loop-i.i < length (lines_on c.args.text.now) = omega (arith, c.loop-i-test.true, c.requires.1) in
    let words : 3 * c.loop-i.i + 3 ≤ length c.loop-i.out = omega (arith, c.loop-i-test.true, c.requires.2, c.loop-i.invariant.0) in
    let l = c.loop-i in
    let f = field_at c.args.text.now c.requires.0 in
    let line = line-is c.args.text.now c.requires.0 l.i c.number_at-a.result c.number_at-b.result c.number_at-c.result there
    (c.number_at-a.ensures _ (f (64 * l.i) l.i 0 (omega arith) there (omega arith)))
    (c.number_at-b.ensures _ (f (64 * l.i + 21) l.i 1 (omega arith) there (omega arith)))
    (c.number_at-c.ensures _ (f (64 * l.i + 42) l.i 2 (omega arith) there (omega arith))) in (simp length-set l.invariant.0, line-written (lines_on c.args.text.now) l.i c.number_at-a.result c.number_at-b.result c.number_at-c.result l.out there words line l.invariant.1)
