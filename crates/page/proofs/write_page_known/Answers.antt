use mathlib.Core.Path.{◌≡◌, sym, ◌∙◌}
use Prim.Native.Nat.{◌*◌}
use native.Mathlib.Omega.{arith}
use lib.ListN.{length}
use borrow.Rule.Slice.PartMut.{mid_len}
use Rattle.model.specs.Calls.{held, page, step, acted}
use Rattle.model.specs.Page.{page_line_len}
use Rattle.model.specs.Sound.{Sound}
use Rattle.model.proofs.Steps.{front-refuses, front-passes}
use Rattle.model.proofs.Sound.{front-sound}
use Rattle.sheet.proofs.Text.{ready}
use Rattle.answers.proofs.Looked.{refused-out, written_out}
use Rattle.page.proofs.Answers.{text-long, no_own, short, written}
use Rattle.page.proofs.write_page_known.Goals as goal

pub returns-then-number-ne0 : goal.returns-then-number-ne0
returns-then-number-ne0 c =
    let both = (
    refused-out (held c.args.h c.args.store.now) c.args.out.now _ c.plain_answer.ensures
    (front-refuses (page (length c.args.out.now)) (held c.args.h c.args.store.now) 0 _ (no_own (held c.args.h c.args.store.now) (length c.args.out.now)) c.front-number.ensures c.if-number-ne0.true)) in
    record { answer = both.0; output = both.1 }

pub overflow_mul-length : goal.overflow_mul-length
overflow_mul-length c =
    let sound : Sound c.args.h.size c.args.h.count c.args.store.now = front-sound (held c.args.h c.args.store.now) 0 (sym c.front-number.ensures ∙ c.if-number-ne0.false) in
    omega (arith, (ready _ _ _ sound).1)

pub returns-then-out-length : goal.returns-then-out-length
returns-then-out-length c =
    let passed : step (page (length c.args.out.now)) (held c.args.h c.args.store.now) ≡ acted (page (length c.args.out.now)) (held c.args.h c.args.store.now) = front-passes (page (length c.args.out.now)) (held c.args.h c.args.store.now) 0 _ (no_own (held c.args.h c.args.store.now) (length c.args.out.now)) c.front-number.ensures c.if-number-ne0.false in
    let both = (
    refused-out (held c.args.h c.args.store.now) c.args.out.now 8 c.plain_answer-then-out-length.ensures
    (passed ∙ short (held c.args.h c.args.store.now) (length c.args.out.now) (omega (arith, text-long (held c.args.h c.args.store.now) (length c.args.out.now), c.if-out-length.true)))) in
    record { answer = both.0; output = both.1 }

pub put_page-requires : goal.put_page-requires
put_page-requires c =
    let sound : Sound c.args.h.size c.args.h.count c.args.store.now = front-sound (held c.args.h c.args.store.now) 0 (sym c.front-number.ensures ∙ c.if-number-ne0.false) in
    (sound, mid_len 0 (c.args.h.count * page_line_len) c.args.out.now (omega (arith, c.if-out-length.false)) ∙ (omega arith))

pub returns : goal.returns
returns c =
    let passed : step (page (length c.args.out.now)) (held c.args.h c.args.store.now) ≡ acted (page (length c.args.out.now)) (held c.args.h c.args.store.now) = front-passes (page (length c.args.out.now)) (held c.args.h c.args.store.now) 0 _ (no_own (held c.args.h c.args.store.now) (length c.args.out.now)) c.front-number.ensures c.if-number-ne0.false in
    let both = (
    let long = text-long (held c.args.h c.args.store.now) (length c.args.out.now) in
    written_out (held c.args.h c.args.store.now) c.args.out.now (c.args.h.count * page_line_len) c.looked_answer.ensures c.put_page.ensures long
    (passed ∙ written (held c.args.h c.args.store.now) (length c.args.out.now) (omega (arith, long, c.if-out-length.false)))) in
    record { answer = both.0; output = both.1 }
