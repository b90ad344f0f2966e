-- The calls as the code has them, read from their words.
use Rattle.std.specs.Prelude.{ℕ, ◌≡◌, ◌≤◌, true, List}
use Rattle.model.specs.Channels.{one, two, depolarize2}
use Rattle.model.specs.Calls as Calls
use Rattle.model.specs.Calls.{noise, reset, gate, truncate, normalise, table, pick, sheet, view, page}
use Rattle.perform.specs.Encoding.{shown_words, shows_words}
use Rattle.perform.specs.Records.{number_words, record_words}
use Rattle.perform.specs.declared.Change.{Change}
use Rattle.perform.specs.declared.Change.TheVariants.{Noise, TwoQubits, Depolarize2, Reset, Gate, Truncate, Normalise}
use Rattle.perform.specs.declared.Look.{Look}
use Rattle.perform.specs.declared.Look.TheVariants.{Table, Pick, View}
use Rattle.perform.specs.declared.Call.{Call}

abbrev pub said_change : Change → Calls.Call
said_change (Noise channel q) = noise (one channel q)
said_change (TwoQubits rates p q) = noise (two rates p q)
said_change (Depolarize2 x p q) = noise (depolarize2 x p q)
said_change (Reset q) = reset q
said_change (Gate g) = gate g
said_change Truncate = truncate
said_change Normalise = normalise

abbrev pub said_look : Look → Calls.Call
said_look (Table room) = table room
said_look (Pick draw) = pick draw
said_look (View place) = view place

-- a sheet or a page has room for `bytes` bytes
abbrev pub said : (bytes : ℕ) → Call → Calls.Call
said bytes (Call.Change change) = said_change change
said bytes (Call.Look look) = said_look look
said bytes Call.Sheet = sheet bytes
said bytes Call.Page = page bytes

-- a table or a view, of words that show words; a table's room is in the record
abbrev pub ShowsBy : Call → List ℕ → Type 0
ShowsBy (Call.Look (Table room)) w = (room ≤ shown_words) × (shows_words w ≡ true)
ShowsBy (Call.Look (View place)) w = shows_words w ≡ true
ShowsBy c w = Unit {0}

-- so long a record has room for what it may show
abbrev pub ShowsWithin : Look → (length : ℕ) → Type 0
ShowsWithin (Table room) n = (room ≤ shown_words) × (record_words ≤ n)
ShowsWithin (Pick draw) n = number_words ≤ n
ShowsWithin (View place) n = record_words ≤ n
