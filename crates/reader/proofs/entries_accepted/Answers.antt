use mathlib.Core.Path.{◌≡◌, sym, ap, ◌∙◌}
use mathlib.Core.Bool.{true}
use mathlib.Core.List.{List, ◌∷◌}
use Prim.Native.Nat.{ℕ, ◌+◌, ◌≤◌}
use native.Mathlib.Omega.{arith}
use lib.ListN.{length}
use Rattle.model.specs.Lists.{every}
use Rattle.model.specs.Sheet.{lines_fields}
use Rattle.checks.specs.Sound.{entry_sound}
use Rattle.checks.proofs.Words.{entries-one-pass}
use Rattle.fields.specs.Read.{is_some}
use Rattle.reader.specs.Reading.{lines_on, entry_bytes, entry_span, entry_on, entries_on}
use Rattle.reader.proofs.Entry.{passes, fails, every-none}
use Rattle.reader.proofs.Walked.{lines_from, entries_from, set_out, read_whole, entries-whole, bytes-within, walk-on, walk-reads, entry-there, walk-entries, walk-done}
use Rattle.reader.proofs.entries_accepted.Goals as goal

pub loop-init : goal.loop-init
loop-init c =
    let t = c.args.text.now in (
      set_out c.args.count t c.requires.1,
      read_whole c.args.size c.args.count t ∙ c.requires.2,
      ap (every (entry_sound c.args.size)) (entries-whole c.args.size c.args.count t) ∙ sym (entries-one-pass c.args.size (entries_on c.args.size c.args.count (lines_on t))),
    )

pub entry_accepted-requires : goal.entry_accepted-requires
entry_accepted-requires c =
    let whole : entry_span c.args.size (lines_from c.args.text.now c.loop.at) ≤ length (lines_from c.args.text.now c.loop.at) = let l = c.loop in
    let a = c.args in
    entry-there a.size a.count a.text.now l.at l.counter l.invariant.0 c.loop-test.true l.invariant.1 in
    let here-lines : lines_on c.text_from-here.result.now ≡ (lines_from c.args.text.now c.loop.at) = ap lines_on c.text_from-here.ensures in
    let here-lined : is_some (lines_fields 3 c.text_from-here.result.now) ≡ true = ap (λ (t : List ℕ). is_some (lines_fields 3 t)) c.text_from-here.ensures ∙ c.loop.invariant.0.lined in
    (c.requires.0, here-lined, rw here-lines whole)

pub returns-then-not-entry_accepted : goal.returns-then-not-entry_accepted
returns-then-not-entry_accepted c =
    let next : let l = c.loop in let a = c.args in entries_from a.size a.count a.text.now l.at l.counter ≡ entry_on a.size (lines_from c.args.text.now c.loop.at) ∷ entries_from a.size a.count a.text.now (l.at + entry_bytes a.size (lines_from c.args.text.now c.loop.at)) (l.counter + 1) = let l = c.loop in
    let a = c.args in
    walk-entries a.size a.count a.text.now l.at l.counter l.invariant.0 c.loop-test.true l.invariant.1 in
    let here-lines : lines_on c.text_from-here.result.now ≡ (lines_from c.args.text.now c.loop.at) = ap lines_on c.text_from-here.ensures in
    -- what was found of it
    let found : c.entry_accepted.result ≡ entry_sound c.args.size (entry_on c.args.size (lines_from c.args.text.now c.loop.at)) = let s = c.args.size in c.entry_accepted.ensures ∙ ap (λ (l : List (List ℕ)). entry_sound s (entry_on s l)) here-lines in
    let s = c.args.size in
    fails (entry_sound s) (entry_on s (lines_from c.args.text.now c.loop.at)) _ (sym found ∙ c.if-not-entry_accepted.true) ∙ sym (ap (every (entry_sound s)) next) ∙ c.loop.invariant.2

pub overflow_add-at : goal.overflow_add-at
overflow_add-at c =
    let whole : entry_span c.args.size (lines_from c.args.text.now c.loop.at) ≤ length (lines_from c.args.text.now c.loop.at) = let l = c.loop in
    let a = c.args in
    entry-there a.size a.count a.text.now l.at l.counter l.invariant.0 c.loop-test.true l.invariant.1 in
    let here-lines : lines_on c.text_from-here.result.now ≡ (lines_from c.args.text.now c.loop.at) = ap lines_on c.text_from-here.ensures in
    -- its bytes
    let bytes : c.entry_bytes-at.result ≡ entry_bytes c.args.size (lines_from c.args.text.now c.loop.at) = c.entry_bytes-at.ensures ∙ ap (entry_bytes c.args.size) here-lines in
    let l = c.loop in
    let a = c.args in
    omega (arith, bytes, bytes-within a.size a.count a.text.now l.at l.counter l.invariant.0 c.loop-test.true whole)

pub loop-preserved : goal.loop-preserved
loop-preserved c =
    let whole : entry_span c.args.size (lines_from c.args.text.now c.loop.at) ≤ length (lines_from c.args.text.now c.loop.at) = let l = c.loop in
    let a = c.args in
    entry-there a.size a.count a.text.now l.at l.counter l.invariant.0 c.loop-test.true l.invariant.1 in
    let next : let l = c.loop in let a = c.args in entries_from a.size a.count a.text.now l.at l.counter ≡ entry_on a.size (lines_from c.args.text.now c.loop.at) ∷ entries_from a.size a.count a.text.now (l.at + entry_bytes a.size (lines_from c.args.text.now c.loop.at)) (l.counter + 1) = let l = c.loop in
    let a = c.args in
    walk-entries a.size a.count a.text.now l.at l.counter l.invariant.0 c.loop-test.true l.invariant.1 in
    let here-lines : lines_on c.text_from-here.result.now ≡ (lines_from c.args.text.now c.loop.at) = ap lines_on c.text_from-here.ensures in
    -- what was found of it
    let found : c.entry_accepted.result ≡ entry_sound c.args.size (entry_on c.args.size (lines_from c.args.text.now c.loop.at)) = let s = c.args.size in c.entry_accepted.ensures ∙ ap (λ (l : List (List ℕ)). entry_sound s (entry_on s l)) here-lines in
    -- its bytes
    let bytes : c.entry_bytes-at.result ≡ entry_bytes c.args.size (lines_from c.args.text.now c.loop.at) = c.entry_bytes-at.ensures ∙ ap (entry_bytes c.args.size) here-lines in
    let l = c.loop in
    let a = c.args in
    let s = a.size in
    let t = a.text.now in
    let on = walk-on s a.count t l.at l.counter l.invariant.0 c.loop-test.true whole in
    let reads = walk-reads s a.count t l.at l.counter l.invariant.0 c.loop-test.true whole in
    let passed : entry_sound s (entry_on s (lines_from c.args.text.now c.loop.at)) ≡ true = sym found ∙ c.if-not-entry_accepted.false in
    let rest = entries_from s a.count t (l.at + entry_bytes s (lines_from c.args.text.now c.loop.at)) (l.counter + 1) in
    let kept = passes (entry_sound s) (entry_on s (lines_from c.args.text.now c.loop.at)) rest passed ∙ sym (ap (every (entry_sound s)) next) ∙ l.invariant.2 in
    (rw bytes on, rw bytes (reads ∙ l.invariant.1), rw bytes kept)

pub returns : goal.returns
returns c =
    let l = c.loop in
    let a = c.args in
    let none = walk-done a.size a.count a.text.now l.at l.counter l.invariant.0 (omega arith) l.invariant.1 in
    sym (ap (every (entry_sound a.size)) none ∙ every-none (entry_sound a.size)) ∙ l.invariant.2
