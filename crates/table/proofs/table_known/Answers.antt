use mathlib.Core.Path.{◌≡◌, sym, ap, ap₂, ◌∙◌}
use mathlib.Core.List.{List, ◌++◌, map}
use Prim.Native.Nat.{ℕ, ◌*◌, ◌-◌, ◌≤◌}
use native.Mathlib.Omega.{arith}
use lib.ListN.{length, take, drop}
use borrow.Rule.Slice.PartMut.{mid_len}
use Rattle.model.specs.Entries.{strip, listed}
use Rattle.model.specs.Table.{table_words}
use Rattle.model.specs.Calls as Calls
use Rattle.model.specs.Calls.{Lent, Left, held, overlaid, answer_of, no_counts, step, acted}
use Rattle.model.specs.Sound.{Sound}
use Rattle.model.specs.Store.{no_loss}
use Rattle.model.proofs.Steps.{front-refuses, front-passes}
use Rattle.model.proofs.Sound.{front-sound}
use Rattle.answers.proofs.Looked.{refused-out}
use Rattle.table.proofs.Answers.{table-own, table-8, table-9, table-0}
use Rattle.table.proofs.table_known.Goals as goal

-- ---- what is given, seen from after each test

-- ---- what the tests that were passed say

pub returns-then-number-ne0 : goal.returns-then-number-ne0
returns-then-number-ne0 c =
    let both = (
    refused-out (held c.args.h c.args.store.now) c.args.out.now _ c.plain_answer.ensures
    (front-refuses (Calls.table (length c.args.out.now)) (held c.args.h c.args.store.now) 0 _ (table-own (held c.args.h c.args.store.now) (length c.args.out.now)) c.front-number.ensures c.if-number-ne0.true)) in
    record { answer = both.0; output = both.1 }

pub overflow_mul-room : goal.overflow_mul-room
overflow_mul-room c =
    let sound : Sound c.args.h.size c.args.h.count c.args.store.now = front-sound (held c.args.h c.args.store.now) 0 (sym c.front-number.ensures ∙ c.if-number-ne0.false) in
    let p = sound.packed in omega (arith, p.room, p.sized.capacity.high)

pub returns-then-out-room : goal.returns-then-out-room
returns-then-out-room c =
    let passed : step (Calls.table (length c.args.out.now)) (held c.args.h c.args.store.now) ≡ acted (Calls.table (length c.args.out.now)) (held c.args.h c.args.store.now) = front-passes (Calls.table (length c.args.out.now)) (held c.args.h c.args.store.now) 0 _ (table-own (held c.args.h c.args.store.now) (length c.args.out.now)) c.front-number.ensures c.if-number-ne0.false in
    let both = (
    refused-out (held c.args.h c.args.store.now) c.args.out.now 8 c.plain_answer-then-out-room.ensures (passed ∙ table-8 (held c.args.h c.args.store.now) (length c.args.out.now) c.if-out-room.true)) in
    record { answer = both.0; output = both.1 }

pub returns-then-count-eq0 : goal.returns-then-count-eq0
returns-then-count-eq0 c =
    let passed : step (Calls.table (length c.args.out.now)) (held c.args.h c.args.store.now) ≡ acted (Calls.table (length c.args.out.now)) (held c.args.h c.args.store.now) = front-passes (Calls.table (length c.args.out.now)) (held c.args.h c.args.store.now) 0 _ (table-own (held c.args.h c.args.store.now) (length c.args.out.now)) c.front-number.ensures c.if-number-ne0.false in
    let enough : 2 * c.args.h.count ≤ (length c.args.out.now) = omega (arith, c.if-out-room.false) in
    let both = (
    refused-out (held c.args.h c.args.store.now) c.args.out.now 9 c.plain_answer-then-count-eq0.ensures (passed ∙ table-9 (held c.args.h c.args.store.now) (length c.args.out.now) enough c.if-count-eq0.true)) in
    record { answer = both.0; output = both.1 }

pub put_table-requires : goal.put_table-requires
put_table-requires c =
    let sound : Sound c.args.h.size c.args.h.count c.args.store.now = front-sound (held c.args.h c.args.store.now) 0 (sym c.front-number.ensures ∙ c.if-number-ne0.false) in
    let enough : 2 * c.args.h.count ≤ (length c.args.out.now) = omega (arith, c.if-out-room.false) in
    -- the table's part of the output is as long as the table
    let part-long : let n = 2 * c.args.h.count in length (take (n - 0) c.args.out.now) ≡ n = let n = 2 * c.args.h.count in mid_len 0 n c.args.out.now enough ∙ omega arith in
    (sound, part-long)

pub returns : goal.returns
returns c =
    let passed : step (Calls.table (length c.args.out.now)) (held c.args.h c.args.store.now) ≡ acted (Calls.table (length c.args.out.now)) (held c.args.h c.args.store.now) = front-passes (Calls.table (length c.args.out.now)) (held c.args.h c.args.store.now) 0 _ (table-own (held c.args.h c.args.store.now) (length c.args.out.now)) c.front-number.ensures c.if-number-ne0.false in
    let enough : 2 * c.args.h.count ≤ (length c.args.out.now) = omega (arith, c.if-out-room.false) in
    -- the table's part of the output is as long as the table
    let part-long : let n = 2 * c.args.h.count in length (take (n - 0) c.args.out.now) ≡ n = let n = 2 * c.args.h.count in mid_len 0 n c.args.out.now enough ∙ omega arith in
    let x = (held c.args.h c.args.store.now) in
    let n = 2 * x.header.count in
    let out = c.args.out.now in
    let e = passed ∙ table-0 x (length c.args.out.now) enough c.if-count-eq0.false in
    let t = c.put_table.ensures in
    let long : n ≡ length (table_words (map strip (listed x.header.size x.header.count x.words))) = sym part-long ∙ sym c.put_table.auto.out ∙ ap length t in
    let z : n - 0 ≡ n = omega arith in record {
      answer = c.looked_answer.ensures ∙ ap (answer_of 0 x.header no_counts no_loss 0) long ∙ sym (ap (λ (l : Left). l.answer) e);
      output = ap₂ (λ (v : List ℕ) (k : ℕ). v ++ drop k out) t (z ∙ long) ∙ sym (ap (λ (l : Left). overlaid l.output out) e);
    }
