-- A call as words: its kind, two whole numbers, and the bits of up to 15 rates. Assumes nothing.
use Rattle.std.specs.Prelude.{ℕ, ◌+◌, ◌*◌, Bool, cond, not, ◌&&◌, ◌||◌, List, map, eqb, ltb, leb, Float, get_or, drop}
use Rattle.model.specs.Floats.{float}
use Rattle.model.specs.Channels.{one, two, depolarize2}
use Rattle.model.specs.Numbers.{max_capacity}
use Rattle.model.specs.Calls.{Call, noise, reset, gate, truncate, normalise, table, pick, sheet, view, page}
use Rattle.model.specs.declared.Channel.TheVariants.{Pauli, Loss, Depolarizing}
use Rattle.model.specs.declared.Gate.TheVariants.{H, S, Cnot}

-- the words of a call
abbrev pub call_words : ℕ
call_words = 18

-- the most that a table or a view shows in a record: the table of a full list. The longest entry, 5 + 3·24 + 6·64 words, is shorter
abbrev pub shown_words : ℕ
shown_words = 2 * max_capacity

-- the most room that a record may have for it: what was asked for before request 4 of document 02, so that lists made for that run as before
abbrev pub most_shown : ℕ
most_shown = 581

abbrev pub kind_in : List ℕ → ℕ
kind_in w = get_or w 0 0

-- the whole numbers: a qubit and another, a place, or a room
abbrev pub first_in : List ℕ → ℕ
first_in w = get_or w 1 0

abbrev pub second_in : List ℕ → ℕ
second_in w = get_or w 2 0

-- rate i, or the draw
abbrev pub rate_in : List ℕ → ℕ → Float
rate_in w i = float (get_or w (3 + i) 0)

abbrev pub rates_in : List ℕ → List Float
rates_in w = map float (drop 3 w)

-- a table's room: what is asked for, at most what a record shows
unfoldable pub room_in : List ℕ → ℕ
room_in w = cond (ltb shown_words (first_in w)) shown_words (first_in w)

unfoldable pub known : List ℕ → Bool
known w = ltb (kind_in w) 16

-- a table or a view: it shows words in its record
unfoldable pub shows_words : List ℕ → Bool
shows_words w = eqb (kind_in w) 11 || eqb (kind_in w) 14

-- a known kind, whose record has room for what it may show, if it has room for `shown` words
unfoldable pub fitting : (shown : ℕ) → List ℕ → Bool
fitting shown w = known w && (not (shows_words w) || leb shown_words shown)

-- the call of a kind; a sheet or a page has room for `bytes` bytes
unfoldable pub call_by : ℕ → ℕ → List ℕ → Call
call_by bytes kind w =
    cond (eqb kind 0) (noise (one (Pauli (rate_in w 0) (rate_in w 1) (rate_in w 2)) (first_in w)))
    (cond (eqb kind 1) (noise (one (Loss (rate_in w 0)) (first_in w)))
    (cond (eqb kind 2) (noise (one (Depolarizing (rate_in w 0)) (first_in w)))
    (cond (eqb kind 3) (noise (two (rates_in w) (first_in w) (second_in w)))
    (cond (eqb kind 4) (noise (depolarize2 (rate_in w 0) (first_in w) (second_in w)))
    (cond (eqb kind 5) (reset (first_in w))
    (cond (eqb kind 6) (gate (H (first_in w)))
    (cond (eqb kind 7) (gate (S (first_in w)))
    (cond (eqb kind 8) (gate (Cnot (first_in w) (second_in w)))
    (cond (eqb kind 9) truncate
    (cond (eqb kind 10) normalise
    (cond (eqb kind 11) (table (room_in w))
    (cond (eqb kind 12) (pick (rate_in w 0))
    (cond (eqb kind 13) (sheet bytes)
    (cond (eqb kind 14) (view (first_in w))
    (page bytes)))))))))))))))

abbrev pub call_of : ℕ → List ℕ → Call
call_of bytes w = call_by bytes (kind_in w) w
