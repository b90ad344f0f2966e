-- The calls that begin a sum: fresh, and the reading of a sheet. Assumes nothing.
use Rattle.std.specs.Prelude.{ℕ, ◌*◌, ◌-◌, ◌^◌, Bool, true, false, cond, not, ◌||◌, List, [], ◌∷◌, map, ltb, Float, length, replicate}
use Rattle.std.proofs.Math.Option.{Option, none, some}
use Rattle.model.specs.Floats.{float, zero_bits, one_bits, above}
use Rattle.model.specs.Entries.{Entry, Keyed, Row, pack, coefs_len, rows_below}
use Rattle.model.specs.Keys.{usual_salts, keyed}
use Rattle.model.specs.Sum.{Result, done, refused}
use Rattle.model.specs.Sheet.{Sheet, read_sheet}
use Rattle.model.specs.Numbers.{Test, gives, size_sound, bounds_sound, entries_sound}
use Rattle.model.specs.Calls.Judged.{unless}
use Rattle.model.specs.Calls.Steps.{Left, gave, header_of, plain_answer}
use Rattle.model.specs.declared.Size.{Size}
use Rattle.model.specs.declared.Header.{Header}

pub data Start : Type 0 where
  fresh : Size → Float → Float → Start
  read : List ℕ → Start

-- rows 0 to n − 1 are X on qubit i, rows n to 2n − 1 Z, phases 0
unfoldable pub fresh_row : ℕ → ℕ → Row
fresh_row n r = cond (ltb r n) (record { x = 2 ^ r; z = 0; phase = 0 }) (record { x = 0; z = 2 ^ (r - n); phase = 0 })

-- one coefficient 1 + 0i at index 0; weight 1
unfoldable pub fresh_entry : Size → Entry
fresh_entry s =
    record {
      weight = one_bits;
      body =
          record {
            loss = 0;
            count = 1;
            coefs = 0 ∷ one_bits ∷ zero_bits ∷ replicate (coefs_len s - 3) 0;
            rows = rows_below (fresh_row s.n) (2 * s.n);
          };
    }

-- stored if 1 is above the cutoff
unfoldable pub fresh_entries : Size → Float → List Entry
fresh_entries s cutoff = cond (above (float one_bits) cutoff) (fresh_entry s ∷ []) []

abbrev pub fresh_sheet : Size → Float → Float → Sheet
fresh_sheet s threshold cutoff = record { size = s; threshold = threshold; cutoff = cutoff; entries = fresh_entries s cutoff }

-- 1 and 2 for a store of `len` words
unfoldable pub fresh_tests : Size → Float → Float → ℕ → List Test
fresh_tests s threshold cutoff len = gives 1 (not (size_sound s len)) ∷ gives 2 (not (bounds_sound threshold cutoff)) ∷ []

-- 1, 2 and 5
unfoldable pub sheet_tests : Sheet → ℕ → List Test
sheet_tests t len =
    gives 1 (not (size_sound t.size len))
    ∷ gives 2 (ltb t.size.capacity (length t.entries) || not (bounds_sound t.threshold t.cutoff))
    ∷ gives 5 (not (entries_sound t.size t.entries))
    ∷ []

-- the sheet reader tests 7 first
unfoldable pub sheet_begins : ℕ → Option Sheet → Result Sheet
sheet_begins len none = refused 7
sheet_begins len (some t) = unless (sheet_tests t len) (done t)

-- what a sum begins with
unfoldable pub begins : Start → ℕ → Result Sheet
begins (fresh s threshold cutoff) len = unless (fresh_tests s threshold cutoff len) (done (fresh_sheet s threshold cutoff))
begins (read text) len = sheet_begins len (read_sheet text)

-- fresh: keys worked out, not dirty. Reading sets keys to 0 and dirty
unfoldable pub start_dirty : Start → Bool
start_dirty (fresh s threshold cutoff) = false
start_dirty (read text) = true

unfoldable pub start_keyed : Start → ℕ → Entry → Keyed
start_keyed (fresh s threshold cutoff) n e = keyed usual_salts n e
start_keyed (read text) n e = record { entry = e; word_key = 0; phase_loss_key = 0 }

abbrev pub zero_header : Header
zero_header = header_of (record { n = 0; k = 0; capacity = 0 }) 0 (float zero_bits) (float zero_bits) false

abbrev pub sheet_header : Sheet → Bool → Header
sheet_header t dirty = header_of t.size (length t.entries) t.threshold t.cutoff dirty

-- with a refusal comes a header of zeros; accepted, every word of the store is written
unfoldable pub left_by : Start → List ℕ → Result Sheet → Left
left_by b w (refused n) = gave (plain_answer zero_header n) w
left_by b w (done t) = gave (plain_answer (sheet_header t (start_dirty b)) 0) (pack t.size (map (start_keyed b t.size.n) t.entries))

-- ONE START, on a store holding any words
unfoldable pub start : Start → List ℕ → Left
start b w = left_by b w (begins b (length w))
