use mathlib.Core.Path.{◌≡◌, sym, ap, ap₂, ◌∙◌}
use mathlib.Core.Bool.{true}
use mathlib.Core.List.{List}
use Prim.Native.Nat.{ℕ}
use native.Mathlib.Omega.{arith}
use lib.ListN.{length, take, drop}
use lib.Seq.{length-take-le}
use Rattle.model.specs.Sheet.{line_fields, lines_fields, read_entries}
use Rattle.model.specs.declared.Header.{Header}
use Rattle.fields.specs.Read.{is_some}
use Rattle.reader.specs.Reading.{got, lines_on, header_on, header_in}
use Rattle.reader.proofs.Sheets.{first-fails, too_short, lines-fail, entries-decide}
use Rattle.reader.proofs.text_sound.Goals as goal

pub returns-then-text-lt127 : goal.returns-then-text-lt127
returns-then-text-lt127 c = let t = c.args.text.now in first-fails t (too_short t c.if-text-lt127.true)

pub line_sound-requires : goal.line_sound-requires
line_sound-requires c = (omega arith, ap length c.first_line-first.ensures ∙ length-take-le 127 c.args.text.now c.if-text-lt127.false)

pub returns-then-not-line_sound : goal.returns-then-not-line_sound
returns-then-not-line_sound c =
    let of-first : c.line_sound.result ≡ is_some (line_fields 6 (take 127 c.args.text.now)) = c.line_sound.ensures ∙ ap (λ (b : List ℕ). is_some (line_fields 6 b)) c.first_line-first.ensures in
    first-fails c.args.text.now (sym of-first ∙ c.if-not-line_sound.true)

pub returns-then-not-lines_sound : goal.returns-then-not-lines_sound
returns-then-not-lines_sound c =
    let of-lines : c.lines_sound.result ≡ is_some (lines_fields 3 (drop 127 c.args.text.now)) = c.lines_sound.ensures ∙ ap (λ (b : List ℕ). is_some (lines_fields 3 b)) c.text_from-rest.ensures in
    lines-fail c.args.text.now (sym of-lines ∙ c.if-not-lines_sound.true)

pub returns : goal.returns
returns c =
    let of-first : c.line_sound.result ≡ is_some (line_fields 6 (take 127 c.args.text.now)) = c.line_sound.ensures ∙ ap (λ (b : List ℕ). is_some (line_fields 6 b)) c.first_line-first.ensures in
    let first_read : is_some (line_fields 6 (take 127 c.args.text.now)) ≡ true = sym of-first ∙ c.if-not-line_sound.false in
    let of-lines : c.lines_sound.result ≡ is_some (lines_fields 3 (drop 127 c.args.text.now)) = c.lines_sound.ensures ∙ ap (λ (b : List ℕ). is_some (lines_fields 3 b)) c.text_from-rest.ensures in
    let lines-read : is_some (lines_fields 3 (drop 127 c.args.text.now)) ≡ true = sym of-lines ∙ c.if-not-lines_sound.false in
    let header_read : c.header_on-h.result ≡ header_in c.args.text.now = c.header_on-h.ensures ∙ ap (λ (b : List ℕ). header_on (got (line_fields 6 b))) c.first_line-first.ensures in
    let t = c.args.text.now in
    c.entries_fit.ensures
    ∙ ap₂ (λ (h : Header) (b : List ℕ). is_some (read_entries h.size h.count (lines_on b))) header_read c.text_from-rest.ensures
    ∙ entries-decide t first_read lines-read
