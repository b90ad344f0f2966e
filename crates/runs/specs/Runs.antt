-- A run of calls from their words, on a lent store, with a record and a stretch of text for each call. Assumes nothing.
use Rattle.std.specs.Prelude.{ℕ, ◌+◌, ◌*◌, ◌/◌, ◌%◌, Bool, false, cond, ◌&&◌, List, [], ◌∷◌, ◌++◌, map, eqb, leb, length, take, drop}
use Rattle.model.specs.Lists.{groups, every}
use Rattle.model.specs.Calls.{Call, Lent, held, Left, step, overlaid, Start, start, zero_header}
use Rattle.perform.specs.Encoding.{call_words, most_shown, fitting, call_of}
use Rattle.perform.specs.Records.{number_words, record_of, text_of}
use Rattle.model.specs.Demand3.{next, after_calls, made_of}
use Rattle.runs.specs.declared.Ran.{Ran}
use Rattle.runs.specs.declared.Room.{Room}

-- ---- the calls

abbrev pub count_in : List ℕ → ℕ
count_in calls = length calls / call_words

abbrev pub groups_in : List ℕ → List (List ℕ)
groups_in calls = groups call_words (count_in calls) calls

-- each sheet and each page has room for `bytes` bytes
abbrev pub calls_in : ℕ → List ℕ → List Call
calls_in bytes calls = map (call_of bytes) (groups_in calls)

-- the words of a record: the numbers, and what it has room to show
abbrev pub record_len : Room → ℕ
record_len room = number_words + room.shown

-- whole calls of known kinds that can show what they may show, and a record and a stretch of text for each
unfoldable pub fits : Room → List ℕ → ℕ → ℕ → Bool
fits room calls log_len text_len =
    eqb (length calls % call_words) 0
    && leb room.shown most_shown
    && leb (count_in calls * record_len room) log_len
    && leb (count_in calls * room.bytes) text_len
    && every (fitting room.shown) (groups_in calls)

-- the number of a run that does not
abbrev pub does_not_fit : ℕ
does_not_fit = 19

-- ---- what a run leaves

-- a stretch of `len` words for each call: what f says that it wrote, over the stretch's start. All else is unchanged
unfoldable pub filled : ℕ → (Call → Left → List ℕ) → List Call → Lent → List ℕ → List ℕ
filled len f [] x w = w
filled len f (c ∷ cs) x w = overlaid (f c (step c x)) (take len w) ++ filled len f cs (next (step c x)) (drop len w)

-- a number; how many calls were made; header and store; the records; the text
pub record Came : Type 0 where
  pub number : ℕ
  pub made : ℕ
  pub lent : Lent
  pub log : List ℕ
  pub text : List ℕ

abbrev pub came : Ran → List ℕ → List ℕ → List ℕ → Came
came r w log text = record { number = r.number; made = r.made; lent = held r.header w; log = log; text = text }

-- nothing was written
abbrev pub untouched : ℕ → Lent → List ℕ → List ℕ → Came
untouched n x log text = record { number = n; made = 0; lent = x; log = log; text = text }

-- these calls, in order, each given header and store as the last one left them
abbrev pub ran_these : Room → List Call → Lent → List ℕ → List ℕ → Came
ran_these room cs x log text =
    record {
      number = 0;
      made = length cs;
      lent = after_calls cs x;
      log = filled (record_len room) record_of cs x log;
      text = filled room.bytes text_of cs x text;
    }

-- all calls or, if a refusal is to end the run, those up to the first that is refused
abbrev pub ran_all : Room → (stop : Bool) → List Call → Lent → List ℕ → List ℕ → Came
ran_all room stop cs x log text = ran_these room (made_of stop cs x) x log text

-- .. on the sum x; or, if they do not fit, that number and nothing written
unfoldable pub ran_on : Room → (stop : Bool) → List ℕ → Lent → List ℕ → List ℕ → Came
ran_on room stop calls x log text =
    cond (fits room calls (length log) (length text)) (ran_all room stop (calls_in room.bytes calls) x log text) (untouched does_not_fit x log text)

-- ---- from a start on: all calls

-- a start that was refused, or the run from it
unfoldable pub ran_after : Room → List Call → Left → List ℕ → List ℕ → Came
ran_after room cs l log text =
    cond (eqb l.answer.number 0) (ran_all room false cs (next l) log text) (untouched l.answer.number (next l) log text)

-- a run that does not fit has no start: a header of zeros
abbrev pub unfit : Ran
unfit = record { number = does_not_fit; made = 0; header = zero_header }

-- that comes first, and nothing is written
unfoldable pub ran_from : Room → List ℕ → Start → List ℕ → List ℕ → List ℕ → Came
ran_from room calls b w log text =
    cond (fits room calls (length log) (length text))
    (ran_after room (calls_in room.bytes calls) (start b w) log text)
    (came unfit w log text)
