-- Demand 3 as a promise of compiled code: what comes back of a run from a start on, said by the list kept without keys. What the calls gave
-- is read from the records and the text. The engine's start and step, its walk over keys and its rule for the flag do not occur here; it
-- shares with this promise how words are read as entries (`sum_of`), the keys worked out from them (`rebuilt_entries`), the header of a refused
-- start (`zero_header`), and as what a call shows something (`form_of`: words, bytes, or an entry's words). Assumes nothing.
use Rattle.std.specs.Prelude.{ℕ, ◌≡◌, Bool, true, false, List, [], ◌∷◌, map, length, take, drop, get_or}
use Rattle.model.specs.Entries.{Entry, strip}
use Rattle.model.specs.Sum.{Result, done, refused}
use Rattle.model.specs.Calls.{Call, Form, as_words, as_bytes, as_entry, form_of, kind_of, Sum, held, sum_of, rebuilt_entries, Start, zero_header}
use Rattle.model.specs.Keyless.{keyless_start}
use Rattle.perform.specs.Records.{number_words}
use Rattle.model.specs.Demand3.{keyless_after, Shown, without_keys, all_keyless_shown, all_comparisons, flag_begun, flag_after}
use Rattle.runs.specs.Runs.{record_len, Came, untouched, fits, does_not_fit, calls_in}
use Rattle.runs.specs.declared.Room.{Room}

-- ---- what is read from a call's record and its stretch of text

-- n words behind the numbers; of what is shown as bytes, n bytes of text
unfoldable pub output_in : Form → ℕ → List ℕ → List ℕ → List ℕ
output_in as_words n r t = take n (drop number_words r)
output_in as_bytes n r t = take n t
output_in as_entry n r t = take n (drop number_words r)

-- number, merged, stored, dropped, (compared,) place, the bits of what was lost, and as much output as the length says
abbrev pub shown_in : Call → List ℕ → List ℕ → Shown
shown_in c r t =
    record {
      number = get_or r 0 0;
      merged = get_or r 1 0;
      stored = get_or r 2 0;
      dropped = get_or r 3 0;
      dropped_weight = get_or r 7 0;
      truncated_weight = get_or r 8 0;
      place = get_or r 5 0;
      output = without_keys c (output_in (form_of (kind_of c)) (get_or r 6 0) r t);
    }

unfoldable pub read_shown : Room → List Call → List ℕ → List ℕ → List Shown
read_shown room [] log text = []
read_shown room (c ∷ cs) log text =
    let r = record_len room in
    let b = room.bytes in
    shown_in c (take r log) (take b text) ∷ read_shown room cs (drop r log) (drop b text)

-- the full comparisons
unfoldable pub read_compared : Room → List Call → List ℕ → List ℕ
read_compared room [] log = []
read_compared room (c ∷ cs) log = get_or (take (record_len room) log) 4 0 ∷ read_compared room cs (drop (record_len room) log)

-- ---- the promise

-- the calls cs on the list m, begun dirty or not
pub record Agreed (room : Room) (cs : List Call) (m : Sum Entry) (dirty : Bool) (o : Came) : Type 0 where
  pub number : o.number ≡ 0
  pub made : o.made ≡ length cs
  -- the same size and bounds, and the same entries in the same order, word for word but for the keys
  pub size : o.lent.header.size ≡ (keyless_after cs m).size
  pub threshold : o.lent.header.threshold ≡ (keyless_after cs m).threshold
  pub cutoff : o.lent.header.cutoff ≡ (keyless_after cs m).cutoff
  pub count : o.lent.header.count ≡ length (keyless_after cs m).entries
  pub entries : map strip (sum_of o.lent).entries ≡ (keyless_after cs m).entries
  -- the flag exactly as document 01 says; without it each stored key is the one worked out from its entry
  pub flag : o.lent.header.dirty ≡ flag_after cs m dirty
  pub keys : o.lent.header.dirty ≡ false → (sum_of o.lent).entries ≡ rebuilt_entries o.lent.header.size.n (sum_of o.lent).entries
  -- in the records and the text: the same numbers, counts, lost weights, places, table words, bytes of sheets and pages, and views without keys;
  -- and the comparisons
  pub shown : read_shown room cs o.log o.text ≡ all_keyless_shown cs m
  pub compared : read_compared room cs o.log ≡ all_comparisons cs m

-- the list's start is refused: so is the run's, with its number, a header of zeros and nothing written
pub record Refused (n : ℕ) (w log text : List ℕ) (o : Came) : Type 0 where
  pub not_0 : n ≡ 0 → ⊥
  pub all : o ≡ untouched n (held zero_header w) log text

unfoldable pub Begun : Room → List Call → Start → List ℕ → List ℕ → List ℕ → Came → Result (Sum Entry) → Type 0
Begun room cs b w log text o (refused n) = Refused n w log text o
Begun room cs b w log text o (done m) = Agreed room cs m (flag_begun b) o

unfoldable pub PromiseIf : Bool → Room → List Call → Start → List ℕ → List ℕ → List ℕ → Came → Type 0
PromiseIf false room cs b w log text o = Refused does_not_fit w log text o
PromiseIf true room cs b w log text o = Begun room cs b w log text o (keyless_start b (length w))

-- THE PROMISE, of a store's words w, a log and a text, and of what came back
unfoldable pub Promise : Room → List ℕ → Start → List ℕ → List ℕ → List ℕ → Came → Type 0
Promise room calls b w log text o = PromiseIf (fits room calls (length log) (length text)) room (calls_in room.bytes calls) b w log text o
