use mathlib.Core.Path.{◌≡◌, sym, ◌∙◌}
use native.Mathlib.Omega.{arith}
use lib.ListN.{length}
use borrow.Rule.Slice.PartMut.{mid_len}
use Rattle.model.specs.Calls.{held, sheet, step, acted}
use Rattle.model.specs.Sound.{Sound}
use Rattle.model.proofs.Steps.{front-refuses, front-passes}
use Rattle.model.proofs.Sound.{front-sound}
use Rattle.answers.proofs.Looked.{refused-out, written_out}
use Rattle.sheet.proofs.Answers.{no_own, short, written}
use Rattle.sheet.proofs.write_sheet_known.Goals as goal

pub returns-then-number-ne0 : goal.returns-then-number-ne0
returns-then-number-ne0 c =
    let both = (
    refused-out (held c.args.h c.args.store.now) c.args.out.now _ c.plain_answer.ensures
    (front-refuses (sheet (length c.args.out.now)) (held c.args.h c.args.store.now) 0 _ (no_own (held c.args.h c.args.store.now) (length c.args.out.now)) c.front-number.ensures c.if-number-ne0.true)) in
    record { answer = both.0; output = both.1 }

pub sheet_len-length-requires : goal.sheet_len-length-requires
sheet_len-length-requires c =
    let sound : Sound c.args.h.size c.args.h.count c.args.store.now = front-sound (held c.args.h c.args.store.now) 0 (sym c.front-number.ensures ∙ c.if-number-ne0.false) in
    sound

pub returns-then-out-length : goal.returns-then-out-length
returns-then-out-length c =
    let passed : step (sheet (length c.args.out.now)) (held c.args.h c.args.store.now) ≡ acted (sheet (length c.args.out.now)) (held c.args.h c.args.store.now) = front-passes (sheet (length c.args.out.now)) (held c.args.h c.args.store.now) 0 _ (no_own (held c.args.h c.args.store.now) (length c.args.out.now)) c.front-number.ensures c.if-number-ne0.false in
    let both = (
    refused-out (held c.args.h c.args.store.now) c.args.out.now 8 c.plain_answer-then-out-length.ensures (passed ∙ short (held c.args.h c.args.store.now) (length c.args.out.now) (rw (← c.sheet_len-length.ensures) c.if-out-length.true))) in
    record { answer = both.0; output = both.1 }

pub put_sheet-requires : goal.put_sheet-requires
put_sheet-requires c =
    let sound : Sound c.args.h.size c.args.h.count c.args.store.now = front-sound (held c.args.h c.args.store.now) 0 (sym c.front-number.ensures ∙ c.if-number-ne0.false) in
    let long = c.sheet_len-length.result in record {
      sound = sound;
      out_len = mid_len 0 long c.args.out.now c.if-out-length.false ∙ (omega (arith, c.sheet_len-length.ensures));
    }

pub returns : goal.returns
returns c =
    let passed : step (sheet (length c.args.out.now)) (held c.args.h c.args.store.now) ≡ acted (sheet (length c.args.out.now)) (held c.args.h c.args.store.now) = front-passes (sheet (length c.args.out.now)) (held c.args.h c.args.store.now) 0 _ (no_own (held c.args.h c.args.store.now) (length c.args.out.now)) c.front-number.ensures c.if-number-ne0.false in
    let both = (
    written_out (held c.args.h c.args.store.now) c.args.out.now c.sheet_len-length.result c.looked_answer.ensures c.put_sheet.ensures c.sheet_len-length.ensures
    (passed ∙ written (held c.args.h c.args.store.now) (length c.args.out.now) (rw (← c.sheet_len-length.ensures) c.if-out-length.false))) in
    record { answer = both.0; output = both.1 }
