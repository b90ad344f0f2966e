-- What a line asks for:
--     NAME[tag](arguments) targets      REPEAT n {      }      or nothing
-- and then, if at all, a comment. Assumes nothing.
use Rattle.std.specs.Prelude.{Bool, true, false, cond, Result, Ok, Err, ◌&&◌, List, [], ◌∷◌, ℕ, ◌+◌, ◌-◌, eqb, ltb, Float, length, take, drop}
use Rattle.decimal.specs.Wholes.{whole_at}
use Rattle.decimal.specs.declared.answer.DecimalError.{DecimalError}
use Rattle.circuit.specs.Arguments.{no_rates, arguments_at}
use Rattle.circuit.specs.Names.{named, arguments_of, item_of}
use Rattle.circuit.specs.Runs.{is_of, run_end, is_end, is_word_end, is_at}
use Rattle.circuit.specs.declared.arguments.Arguments.{Arguments}
use Rattle.circuit.specs.declared.lines.Fault.{Fault}
use Rattle.circuit.specs.declared.lines.Item.{Item}
use Rattle.circuit.specs.declared.lines.Line.{Line}
use Rattle.circuit.specs.declared.lines.Name.{Name}
use Rattle.circuit.specs.declared.lines.Misread.{Misread}
use Rattle.circuit.specs.declared.runs.Run.TheVariants as Run

-- ---- names, told apart

-- which of the names it is, from 0 on
abbrev pub order : Name → ℕ
order Name.H = 0
order Name.S = 1
order Name.Cx = 2
order Name.XError = 3
order Name.YError = 4
order Name.ZError = 5
order Name.IError = 6
order Name.PauliChannel1 = 7
order Name.PauliChannel2 = 8
order Name.Depolarize1 = 9
order Name.Depolarize2 = 10
order Name.I = 11
order Name.Tick = 12
order Name.Repeat = 13
order Name.Other = 14

abbrev pub is_name : Name → Name → Bool
is_name a b = eqb (order a) (order b)

-- ---- lines that call nothing

abbrev pub plain : Item → ℕ → ℕ → Line
plain item from to = record { item = item; from = from; to = to; targets = to; rates = no_rates }

-- the word from a place on is at fault
abbrev pub bad_word : List ℕ → Fault → ℕ → Line
bad_word text fault from = plain (Item.Bad fault) from (run_end (is_of Run.Word) text from)

-- what stands up to `at`, if nothing follows it from `rest` on
unfoldable pub alone_to : List ℕ → Item → ℕ → ℕ → ℕ → Line
alone_to text item from at rest = cond (is_end text rest) (plain item from at) (bad_word text Fault.After rest)

unfoldable pub alone : List ℕ → Item → ℕ → ℕ → Line
alone text item from at = alone_to text item from at (run_end (is_of Run.Blanks) text at)

-- ---- tags

-- ']' at a place, of a tag that begins at another
unfoldable pub tag_to : List ℕ → ℕ → ℕ → Result ℕ Misread
tag_to text at close = cond (ltb close (length text)) (Ok (close + 1)) (Err (record { fault = Fault.Tag; from = at; to = close }))

-- where a tag ends, if '[' stands there
unfoldable pub tag_at : List ℕ → ℕ → Result ℕ Misread
tag_at text at = cond (is_at text at 91) (tag_to text at (run_end (is_of Run.Tag) text at)) (Ok at)

unfoldable pub same_bytes : List ℕ → List ℕ → Bool
same_bytes [] [] = true
same_bytes [] (y ∷ ys) = false
same_bytes (x ∷ xs) [] = false
same_bytes (x ∷ xs) (y ∷ ys) = eqb x y && same_bytes xs ys

-- "[loss]", "[reset_loss]"
abbrev pub loss_tag : List ℕ
loss_tag = 91 ∷ 108 ∷ 111 ∷ 115 ∷ 115 ∷ 93 ∷ []

abbrev pub reset_tag : List ℕ
reset_tag = 91 ∷ 114 ∷ 101 ∷ 115 ∷ 101 ∷ 116 ∷ 95 ∷ 108 ∷ 111 ∷ 115 ∷ 115 ∷ 93 ∷ []

-- a tag decides what I_ERROR and I are
unfoldable pub tag_verdict : Name → List ℕ → Result Unit Fault
tag_verdict name tag =
    cond (is_name name Name.IError) (cond (same_bytes tag loss_tag) (Ok tt) (Err Fault.LossTag))
    (cond (is_name name Name.I) (cond (same_bytes tag reset_tag) (Ok tt) (Err Fault.ResetTag))
    (Ok tt))

-- ---- REPEAT

-- '{' at a place
unfoldable pub opened_at : List ℕ → ℕ → ℕ → ℕ → Line
opened_at text times from at = cond (is_at text at 123) (alone text (Item.Repeat times) from (at + 1)) (bad_word text Fault.Open at)

-- .. after blanks
unfoldable pub opened : List ℕ → ℕ → ℕ → ℕ → Line
opened text times from at = opened_at text times from (run_end (is_of Run.Blanks) text at)

-- how often, from 1 on: a number from `digits` to `end`
unfoldable pub times : List ℕ → ℕ → ℕ → ℕ → Result ℕ DecimalError → Line
times text from digits end (Ok n) = cond (ltb 0 n) (opened text n from end) (bad_word text Fault.Repeats digits)
times text from digits end (Err e) = bad_word text Fault.Repeats digits

unfoldable pub times_at : List ℕ → ℕ → ℕ → Line
times_at text from digits = times text from digits (whole_at text digits).end (whole_at text digits).value

unfoldable pub repeated : List ℕ → ℕ → ℕ → Line
repeated text from at = times_at text from (run_end (is_of Run.Blanks) text at)

-- ---- instructions: a name from `from` to `to`

-- TICK has no targets
unfoldable pub targets_missing : List ℕ → Name → ℕ → Bool
targets_missing text name at = cond (is_name name Name.Tick) (is_end text (run_end (is_of Run.Blanks) text at)) true

-- its arguments are read, up to `at`
unfoldable pub called : List ℕ → Name → ℕ → ℕ → List Float → ℕ → Line
called text name from to rates at =
    cond (is_word_end text at)
    (cond (targets_missing text name at)
    (record { item = item_of name rates; from = from; to = to; targets = at; rates = rates })
    (bad_word text Fault.Targets (run_end (is_of Run.Blanks) text at)))
    (bad_word text Fault.Blank at)

-- as many arguments as it takes
unfoldable pub argued : List ℕ → Name → ℕ → ℕ → Result Arguments Misread → Line
argued text name from to (Err m) = plain (Item.Bad m.fault) m.from m.to
argued text name from to (Ok a) =
    cond (eqb a.count (arguments_of name)) (called text name from to a.rates a.to)
    (plain (Item.Bad (Fault.Arguments (arguments_of name))) from a.to)

unfoldable pub with_arguments : List ℕ → Name → ℕ → ℕ → ℕ → Line
with_arguments text name from to at = argued text name from to (arguments_at text at)

-- its tag is read, up to `at`
unfoldable pub instruction : List ℕ → Name → ℕ → ℕ → ℕ → Line
instruction text name from to at =
    cond (is_name name Name.Repeat) (cond (is_word_end text at) (repeated text from at) (bad_word text Fault.Blank at)) (with_arguments text name from to at)

unfoldable pub judged : List ℕ → Name → ℕ → ℕ → ℕ → Result Unit Fault → Line
judged text name from to at (Err fault) = plain (Item.Bad fault) from at
judged text name from to at (Ok u) = instruction text name from to at

unfoldable pub tagged : List ℕ → Name → ℕ → ℕ → Result ℕ Misread → Line
tagged text name from to (Err m) = plain (Item.Bad m.fault) m.from m.to
tagged text name from to (Ok end) = judged text name from to end (tag_verdict name (take (end - to) (drop to text)))

unfoldable pub with_tag : List ℕ → Name → ℕ → ℕ → Line
with_tag text name from to = tagged text name from to (tag_at text to)

-- ---- a line

unfoldable pub with_name : List ℕ → Name → ℕ → ℕ → Line
with_name text name from to = cond (is_name name Name.Other) (bad_word text Fault.Name from) (with_tag text name from to)

-- what is not blank begins at `from`
unfoldable pub line_from : List ℕ → ℕ → Line
line_from text from =
    let to = run_end (is_of Run.Name) text from in
    cond (is_end text from) (plain Item.Nothing from from)
    (cond (is_at text from 125) (alone text Item.Close from (from + 1))
    (with_name text (named (take (to - from) (drop from text))) from to))

unfoldable pub line_of : List ℕ → Line
line_of text = line_from text (run_end (is_of Run.Blanks) text 0)
