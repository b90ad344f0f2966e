use mathlib.Core.Path.{◌≡◌, sym, ap, ap₂, ◌∙◌}
use mathlib.Core.Bool.{true}
use mathlib.Core.List.{List}
use Prim.Native.Nat.{ℕ}
use Rattle.model.specs.Sheet.{line_fields, lines_fields, read_entries, read_sheet}
use Rattle.model.specs.Numbers.{size_sound, header_sound, entries_sound}
use Rattle.model.specs.declared.Header.{Header}
use Rattle.model.proofs.Shape.{sized}
use Rattle.entries.specs.Within.{Within}
use Rattle.fields.specs.Read.{is_some}
use Rattle.reader.specs.Reading.{got, lines_on, entries_on, header_on, header_in, entries_in}
use Rattle.reader.proofs.Sheets.{Read, is_read, read-long}
use Rattle.reader.proofs.Answers.{number-7, number-1, number-2, number-5, number-0}
use Rattle.reader.proofs.sheet_number.Goals as goal

pub returns-then-not-text_sound : goal.returns-then-not-text_sound
returns-then-not-text_sound c = number-7 c.args.text.now c.args.words (sym c.text_sound.ensures ∙ c.if-not-text_sound.true)

pub first_line-requires : goal.first_line-requires
first_line-requires c =
    let was_read : is_some (read_sheet c.args.text.now) ≡ true = sym c.text_sound.ensures ∙ c.if-not-text_sound.false in
    let all_read : Read c.args.text.now = is_read c.args.text.now was_read in
    read-long c.args.text.now all_read

pub header_on-h-requires : goal.header_on-h-requires
header_on-h-requires c =
    let was_read : is_some (read_sheet c.args.text.now) ≡ true = sym c.text_sound.ensures ∙ c.if-not-text_sound.false in
    let all_read : Read c.args.text.now = is_read c.args.text.now was_read in
    ap (λ (b : List ℕ). is_some (line_fields 6 b)) c.first_line.ensures ∙ all_read.one

pub returns-then-not-size_sound : goal.returns-then-not-size_sound
returns-then-not-size_sound c =
    let was_read : is_some (read_sheet c.args.text.now) ≡ true = sym c.text_sound.ensures ∙ c.if-not-text_sound.false in
    let header_read : c.header_on-h.result ≡ header_in c.args.text.now = c.header_on-h.ensures ∙ ap (λ (b : List ℕ). header_on (got (line_fields 6 b))) c.first_line.ensures in
    let of_size : c.size_sound.result ≡ size_sound (header_in c.args.text.now).size c.args.words = c.size_sound.ensures ∙ ap (λ (h : Header). size_sound h.size c.args.words) header_read in
    number-1 c.args.text.now c.args.words was_read (sym of_size ∙ c.if-not-size_sound.true)

pub returns-then-not-header_sound : goal.returns-then-not-header_sound
returns-then-not-header_sound c =
    let was_read : is_some (read_sheet c.args.text.now) ≡ true = sym c.text_sound.ensures ∙ c.if-not-text_sound.false in
    let header_read : c.header_on-h.result ≡ header_in c.args.text.now = c.header_on-h.ensures ∙ ap (λ (b : List ℕ). header_on (got (line_fields 6 b))) c.first_line.ensures in
    let of-header : c.header_sound.result ≡ header_sound (header_in c.args.text.now) = c.header_sound.ensures ∙ ap header_sound header_read in
    let of_size : c.size_sound.result ≡ size_sound (header_in c.args.text.now).size c.args.words = c.size_sound.ensures ∙ ap (λ (h : Header). size_sound h.size c.args.words) header_read in
    let size-sound : size_sound (header_in c.args.text.now).size c.args.words ≡ true = sym of_size ∙ c.if-not-size_sound.false in
    number-2 c.args.text.now c.args.words was_read size-sound (sym of-header ∙ c.if-not-header_sound.true)

pub text_from-requires : goal.text_from-requires
text_from-requires c =
    let was_read : is_some (read_sheet c.args.text.now) ≡ true = sym c.text_sound.ensures ∙ c.if-not-text_sound.false in
    let all_read : Read c.args.text.now = is_read c.args.text.now was_read in
    read-long c.args.text.now all_read

pub entries_accepted-requires : goal.entries_accepted-requires
entries_accepted-requires c =
    let was_read : is_some (read_sheet c.args.text.now) ≡ true = sym c.text_sound.ensures ∙ c.if-not-text_sound.false in
    let all_read : Read c.args.text.now = is_read c.args.text.now was_read in
    let header_read : c.header_on-h.result ≡ header_in c.args.text.now = c.header_on-h.ensures ∙ ap (λ (b : List ℕ). header_on (got (line_fields 6 b))) c.first_line.ensures in
    let of_size : c.size_sound.result ≡ size_sound (header_in c.args.text.now).size c.args.words = c.size_sound.ensures ∙ ap (λ (h : Header). size_sound h.size c.args.words) header_read in
    let size-sound : size_sound (header_in c.args.text.now).size c.args.words ≡ true = sym of_size ∙ c.if-not-size_sound.false in
    let within : Within (header_in c.args.text.now).size = let z = sized (header_in c.args.text.now).size c.args.words size-sound in
    record { qubits = z.qubits.high; coefficients = z.coefficients.high } in
    let r = all_read in (
      rw header_read within,
      ap (λ (b : List ℕ). is_some (lines_fields 3 b)) c.text_from.ensures ∙ r.rest,
      ap₂ (λ (h : Header) (b : List ℕ). is_some (read_entries h.size h.count (lines_on b))) header_read c.text_from.ensures ∙ r.all,
    )

pub returns-then-entries_accepted : goal.returns-then-entries_accepted
returns-then-entries_accepted c =
    let was_read : is_some (read_sheet c.args.text.now) ≡ true = sym c.text_sound.ensures ∙ c.if-not-text_sound.false in
    let header_read : c.header_on-h.result ≡ header_in c.args.text.now = c.header_on-h.ensures ∙ ap (λ (b : List ℕ). header_on (got (line_fields 6 b))) c.first_line.ensures in
    let of_size : c.size_sound.result ≡ size_sound (header_in c.args.text.now).size c.args.words = c.size_sound.ensures ∙ ap (λ (h : Header). size_sound h.size c.args.words) header_read in
    let size-sound : size_sound (header_in c.args.text.now).size c.args.words ≡ true = sym of_size ∙ c.if-not-size_sound.false in
    let of-header : c.header_sound.result ≡ header_sound (header_in c.args.text.now) = c.header_sound.ensures ∙ ap header_sound header_read in
    let header-sound : header_sound (header_in c.args.text.now) ≡ true = sym of-header ∙ c.if-not-header_sound.false in
    let of-entries : let t = c.args.text.now in c.entries_accepted.result ≡ entries_sound (header_in t).size (entries_in t) = c.entries_accepted.ensures
    ∙ ap₂ (λ (h : Header) (b : List ℕ). entries_sound h.size (entries_on h.size h.count (lines_on b))) header_read c.text_from.ensures in
    number-0 c.args.text.now c.args.words was_read size-sound header-sound (sym of-entries ∙ c.if-entries_accepted.true)

pub returns : goal.returns
returns c =
    let was_read : is_some (read_sheet c.args.text.now) ≡ true = sym c.text_sound.ensures ∙ c.if-not-text_sound.false in
    let header_read : c.header_on-h.result ≡ header_in c.args.text.now = c.header_on-h.ensures ∙ ap (λ (b : List ℕ). header_on (got (line_fields 6 b))) c.first_line.ensures in
    let of_size : c.size_sound.result ≡ size_sound (header_in c.args.text.now).size c.args.words = c.size_sound.ensures ∙ ap (λ (h : Header). size_sound h.size c.args.words) header_read in
    let size-sound : size_sound (header_in c.args.text.now).size c.args.words ≡ true = sym of_size ∙ c.if-not-size_sound.false in
    let of-header : c.header_sound.result ≡ header_sound (header_in c.args.text.now) = c.header_sound.ensures ∙ ap header_sound header_read in
    let header-sound : header_sound (header_in c.args.text.now) ≡ true = sym of-header ∙ c.if-not-header_sound.false in
    let of-entries : let t = c.args.text.now in c.entries_accepted.result ≡ entries_sound (header_in t).size (entries_in t) = c.entries_accepted.ensures
    ∙ ap₂ (λ (h : Header) (b : List ℕ). entries_sound h.size (entries_on h.size h.count (lines_on b))) header_read c.text_from.ensures in
    number-5 c.args.text.now c.args.words was_read size-sound header-sound (sym of-entries ∙ c.if-entries_accepted.false)
