use mathlib.Core.Path.{sym, ap, ◌∙◌}
use mathlib.Core.List.{List}
use Prim.Native.Nat.{ℕ}
use lib.ListN.{length}
use Rattle.model.specs.Sheet.{line_fields}
use Rattle.fields.specs.Read.{is_some}
use Rattle.reader.specs.Reading.{got, header_on, Readable}
use Rattle.reader.proofs.Sheets.{Read, is_read, read-long}
use Rattle.reader.proofs.Answers.{sound, is-refused, is-accepted}
use Rattle.reader.proofs.read_sheet.Goals as goal

pub returns-then-number-ne0 : goal.returns-then-number-ne0
returns-then-number-ne0 c =
    is-refused c.args.text.now c.args.store.now c.sheet_number-number.result c.plain_answer.ensures c.zero_header.ensures c.sheet_number-number.ensures c.if-number-ne0.true

pub put_sheet-requires : goal.put_sheet-requires
put_sheet-requires c =
    -- no number was given
    let none-given : Readable c.args.text.now (length c.args.store.now) = sound c.args.text.now (length c.args.store.now) (sym c.sheet_number-number.ensures ∙ c.if-number-ne0.false) in
    none-given

pub first_line-requires : goal.first_line-requires
first_line-requires c =
    -- no number was given
    let none-given : Readable c.args.text.now (length c.args.store.now) = sound c.args.text.now (length c.args.store.now) (sym c.sheet_number-number.ensures ∙ c.if-number-ne0.false) in
    let was_read : Read c.args.text.now = is_read c.args.text.now none-given.read in
    read-long c.args.text.now was_read

pub header_on-h-requires : goal.header_on-h-requires
header_on-h-requires c =
    -- no number was given
    let none-given : Readable c.args.text.now (length c.args.store.now) = sound c.args.text.now (length c.args.store.now) (sym c.sheet_number-number.ensures ∙ c.if-number-ne0.false) in
    let was_read : Read c.args.text.now = is_read c.args.text.now none-given.read in
    ap (λ (b : List ℕ). is_some (line_fields 6 b)) c.first_line.ensures ∙ was_read.one

pub returns : goal.returns
returns c =
    -- no number was given
    let none-given : Readable c.args.text.now (length c.args.store.now) = sound c.args.text.now (length c.args.store.now) (sym c.sheet_number-number.ensures ∙ c.if-number-ne0.false) in
    is-accepted c.args.text.now c.args.store.now none-given c.plain_answer-2.ensures
    (c.header_on-h.ensures ∙ ap (λ (b : List ℕ). header_on (got (line_fields 6 b))) c.first_line.ensures)
    c.put_sheet.ensures
