-- The arguments of an instruction: decimal numbers in round brackets, with commas between them. Assumes nothing.
use Rattle.std.specs.Prelude.{true, false, cond, Result, Ok, Err, List, ℕ, zero, suc, ◌+◌, eqb, ltb, Float, replicate, set}
use Rattle.model.specs.Floats.{float, zero_bits}
use Rattle.circuit.specs.Numbers.{number_at}
use Rattle.circuit.specs.Runs.{is_of, run_end, is_end, is_at}
use Rattle.circuit.specs.declared.arguments.Argument.{Argument}
use Rattle.circuit.specs.declared.arguments.Arguments.{Arguments}
use Rattle.circuit.specs.declared.lines.Fault.{Fault}
use Rattle.circuit.specs.declared.lines.Misread.{Misread}
use Rattle.circuit.specs.declared.runs.Run.TheVariants as Run

-- ---- one argument

-- where a word that is shown ends: it has a byte, unless the line has none there
unfoldable pub shown_to : List ℕ → ℕ → ℕ → ℕ
shown_to text from to = cond (ltb from to) to (cond (is_end text from) from (from + 1))

-- ',' or ')' at a place
unfoldable pub closed_at : List ℕ → Float → ℕ → Result Argument Misread
closed_at text value at =
    cond (is_at text at 44) (Ok (record { value = value; to = at + 1; more = true }))
    (cond (is_at text at 41) (Ok (record { value = value; to = at + 1; more = false }))
    (Err (record { fault = Fault.Bracket; from = at; to = run_end (is_of Run.Word) text at })))

-- .. after blanks
unfoldable pub closed : List ℕ → Float → ℕ → Result Argument Misread
closed text value end = closed_at text value (run_end (is_of Run.Blanks) text end)

-- a number that ends at `end`, and is all that stands up to `to`
unfoldable pub argument_of : List ℕ → ℕ → ℕ → ℕ → Result Float Fault → Result Argument Misread
argument_of text from to end (Err fault) = Err (record { fault = fault; from = from; to = shown_to text from to })
argument_of text from to end (Ok value) =
    cond (eqb end to) (closed text value to) (Err (record { fault = Fault.Number; from = from; to = shown_to text from to }))

unfoldable pub argument_from : List ℕ → ℕ → Result Argument Misread
argument_from text from = argument_of text from (run_end (is_of Run.Argument) text from) (number_at text from).end (number_at text from).value

-- .. after blanks
unfoldable pub argument_at : List ℕ → ℕ → Result Argument Misread
argument_at text at = argument_from text (run_end (is_of Run.Blanks) text at)

-- ---- all of them

-- the rates of a line without arguments
abbrev pub no_rates : List Float
no_rates = replicate 15 (float zero_bits)

-- an argument after `count` of them, and what those after it come to
unfoldable pub counted : Result Argument Misread → List Float → ℕ → (Argument → Result Arguments Misread) → Result Arguments Misread
counted (Err m) rates count rest = Err m
counted (Ok a) rates count rest = cond a.more (rest a) (Ok (record { rates = set rates count a.value; count = count + 1; to = a.to }))

-- at most n arguments more, after `count` of them; 16 stands for more than 15
unfoldable pub arguments_left : ℕ → List ℕ → List Float → ℕ → ℕ → Result Arguments Misread
arguments_left zero text rates count at = Ok (record { rates = rates; count = 16; to = at })
arguments_left (suc n) text rates count at =
    counted (argument_at text at) rates count (λ a. arguments_left n text (set rates count a.value) (count + 1) a.to)

-- the arguments at a place, if '(' stands there
unfoldable pub arguments_at : List ℕ → ℕ → Result Arguments Misread
arguments_at text at = cond (is_at text at 40) (arguments_left 15 text no_rates 0 (at + 1)) (Ok (record { rates = no_rates; count = 0; to = at }))
