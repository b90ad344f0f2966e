use Rattle.std.proofs.Common.{bit_or, ◌∙◌, arith}
use borrow.Author.Tests.{lt-leb}
use Rattle.checks.proofs.Ors.{rows_none, rows_next, rows_end, word_over, phase-over}
use Rattle.checks.proofs.rows_sound.Goals as goal

pub loop-i-init : goal.loop-i-init
loop-i-init c = rows_none c.args.n c.args.rows.now

pub loop-i-preserved : goal.loop-i-preserved
loop-i-preserved c = let o = c.loop-i in rows_next c.args.n c.args.rows.now o.a o.b o.c o.d o.e o.f o.i o.invariant

pub returns-then-words-largest : goal.returns-then-words-largest
returns-then-words-largest c =
    let o = c.loop-i in
    let words = bit_or (bit_or o.a o.b) (bit_or o.d o.e) in
    let phases = bit_or o.c o.f in
    phase-over c.args.n c.largest.result words phases c.largest.ensures c.if-words-largest.true ∙ rows_end c.args.n c.args.rows.now words phases o.i (omega arith) o.invariant

pub returns-else-words-largest : goal.returns-else-words-largest
returns-else-words-largest c =
    let o = c.loop-i in
    let words = bit_or (bit_or o.a o.b) (bit_or o.d o.e) in
    let phases = bit_or o.c o.f in
    lt-leb _ _ c.if-words-largest.false
    ∙ word_over c.args.n c.largest.result words phases c.largest.ensures c.if-words-largest.false
    ∙ rows_end c.args.n c.args.rows.now words phases o.i (omega arith) o.invariant
