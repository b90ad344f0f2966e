-- A text read from the front: its lines, the first entry on them, the entries, and the sheet. Assumes nothing.
use Rattle.std.specs.Prelude.{◌≡◌, true, cond, List, [], ℕ, ◌+◌, ◌*◌, leb, length, get_or, take, drop}
use Rattle.std.proofs.Math.Option.{Option, none, some}
use Rattle.model.specs.Floats.{float}
use Rattle.model.specs.Entries.{Entry, Keyed}
use Rattle.model.specs.Sheet.{Sheet, line_len, line_fields, lines_fields, read_entry, read_entries, read_sheet}
use Rattle.model.specs.Numbers.{first_of}
use Rattle.model.specs.Calls.{header_of, sheet_tests}
use Rattle.model.specs.declared.Size.{Size}
use Rattle.model.specs.declared.Header.{Header}
use Rattle.fields.specs.Read.{is_some}

-- the list that was read
unfoldable pub got : {A : Type 0} → Option (List A) → List A
got none = []
got (some l) = l

-- ---- lines

-- a text of lines of three fields
abbrev pub Lined : List ℕ → Type 0
Lined text = is_some (lines_fields 3 text) ≡ true

unfoldable pub lines_on : List ℕ → List (List ℕ)
lines_on text = got (lines_fields 3 text)

-- ---- the first entry on lines

-- its coefficient count, as its own line says
abbrev pub count_on : List (List ℕ) → ℕ
count_on ls = get_or (get_or ls 0 []) 2 0

-- how many lines it takes
abbrev pub entry_span : Size → List (List ℕ) → ℕ
entry_span s ls = 1 + count_on ls + 2 * s.n

-- their bytes, if they are all there
unfoldable pub entry_bytes : Size → List (List ℕ) → ℕ
entry_bytes s ls = cond (leb (entry_span s ls) (length ls)) (line_len 3 * entry_span s ls) 0

unfoldable pub entry_on : Size → List (List ℕ) → Entry
entry_on s ls = read_entry s.k (get_or ls 0 []) (take (count_on ls) (drop 1 ls)) (take (2 * s.n) (drop (count_on ls) (drop 1 ls)))

-- ---- the entries

unfoldable pub entries_on : Size → ℕ → List (List ℕ) → List Entry
entries_on s count ls = got (read_entries s count ls)

-- reading sets keys to 0
abbrev pub zero_keyed : Entry → Keyed
zero_keyed e = record { entry = e; word_key = 0; phase_loss_key = 0 }

-- ---- the sheet

-- line 1 as a header, dirty
abbrev pub header_on : List ℕ → Header
header_on h =
    header_of (record { n = get_or h 0 0; k = get_or h 1 0; capacity = get_or h 2 0 }) (get_or h 3 0) (float (get_or h 4 0)) (float (get_or h 5 0)) true

abbrev pub header_in : List ℕ → Header
header_in text = header_on (got (line_fields 6 (take (line_len 6) text)))

abbrev pub entries_in : List ℕ → List Entry
entries_in text = entries_on (header_in text).size (header_in text).count (lines_on (drop (line_len 6) text))

abbrev pub sheet_in : List ℕ → Sheet
sheet_in text =
    record { size = (header_in text).size; threshold = (header_in text).threshold; cutoff = (header_in text).cutoff; entries = entries_in text }

-- the number that reading gives, for a store of `len` words
unfoldable pub sheet_number : List ℕ → ℕ → ℕ
sheet_number text len = cond (is_some (read_sheet text)) (first_of (sheet_tests (sheet_in text) len)) 7

-- .. and it gives none
pub record Readable (text : List ℕ) (len : ℕ) : Type 0 where
  pub read : is_some (read_sheet text) ≡ true
  pub tests : first_of (sheet_tests (sheet_in text) len) ≡ 0
