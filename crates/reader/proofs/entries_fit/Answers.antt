use mathlib.Core.Path.{◌≡◌, sym, ap, ◌∙◌}
use mathlib.Core.List.{List}
use Prim.Native.Nat.{ℕ, ◌≤◌}
use native.Mathlib.Omega.{arith}
use lib.Dec.{eqb}
use lib.ListN.{length}
use borrow.Author.Tests.{eqb-true, eqb-false}
use Rattle.reader.specs.Reading.{lines_on, entry_bytes, entry_span}
use Rattle.reader.proofs.Walked.{lines_from, there, bytes-within, walk-fails, walk-on, walk-reads, walk_ends}
use Rattle.reader.proofs.entries_fit.Goals as goal

pub returns-then-bytes-eq0 : goal.returns-then-bytes-eq0
returns-then-bytes-eq0 c =
    -- the bytes that were counted
    let bytes : c.entry_bytes-bytes.result ≡ entry_bytes c.args.size (lines_from c.args.text.now c.loop.at) = c.entry_bytes-bytes.ensures ∙ ap (λ (t : List ℕ). entry_bytes c.args.size (lines_on t)) c.text_from.ensures in
    let l = c.loop in
    let a = c.args in
    sym (walk-fails a.size a.count a.text.now l.at l.counter l.invariant.0 c.loop-test.true (sym bytes ∙ c.if-bytes-eq0.true)) ∙ l.invariant.1

pub overflow_add-at : goal.overflow_add-at
overflow_add-at c =
    -- the bytes that were counted
    let bytes : c.entry_bytes-bytes.result ≡ entry_bytes c.args.size (lines_from c.args.text.now c.loop.at) = c.entry_bytes-bytes.ensures ∙ ap (λ (t : List ℕ). entry_bytes c.args.size (lines_on t)) c.text_from.ensures in
    let all_there : let ls = lines_from c.args.text.now c.loop.at in entry_span c.args.size ls ≤ length ls = there c.args.size _ (λ z. c.if-bytes-eq0.false (bytes ∙ z)) in
    let l = c.loop in
    let a = c.args in
    omega (arith, bytes, bytes-within a.size a.count a.text.now l.at l.counter l.invariant.0 c.loop-test.true all_there)

pub loop-preserved : goal.loop-preserved
loop-preserved c =
    -- the bytes that were counted
    let bytes : c.entry_bytes-bytes.result ≡ entry_bytes c.args.size (lines_from c.args.text.now c.loop.at) = c.entry_bytes-bytes.ensures ∙ ap (λ (t : List ℕ). entry_bytes c.args.size (lines_on t)) c.text_from.ensures in
    let all_there : let ls = lines_from c.args.text.now c.loop.at in entry_span c.args.size ls ≤ length ls = there c.args.size _ (λ z. c.if-bytes-eq0.false (bytes ∙ z)) in
    let l = c.loop in
    let a = c.args in
    let on = walk-on a.size a.count a.text.now l.at l.counter l.invariant.0 c.loop-test.true all_there in
    let reads = walk-reads a.size a.count a.text.now l.at l.counter l.invariant.0 c.loop-test.true all_there in
    (rw bytes on, rw bytes (reads ∙ l.invariant.1))

pub returns : goal.returns
returns c =
    let l = c.loop in
    let a = c.args in
    walk_ends a.size a.count a.text.now l.at l.counter l.invariant.0 (omega arith) (eqb l.at (length a.text.now)) (eqb-true _ _) (eqb-false _ _) ∙ l.invariant.1
