-- The bytes of a line, and runs of them: blanks, names, words. Assumes nothing.
use Rattle.std.specs.Prelude.{Bool, cond, not, ◌&&◌, ◌||◌, List, [], ◌∷◌, ℕ, suc, ◌+◌, eqb, leb, ltb, length, drop}
use Rattle.decimal.specs.Digits.{byte_at}
use Rattle.circuit.specs.declared.runs.Run.{Run}
use Rattle.circuit.specs.declared.runs.Run.TheVariants.{Blanks, Name, Word, Argument, Tag}

-- ---- kinds of bytes

-- a space, a tab, a carriage return
unfoldable pub is_blank : ℕ → Bool
is_blank b = eqb b 32 || eqb b 9 || eqb b 13

-- '#', which begins a comment
abbrev pub comment : ℕ
comment = 35

-- what a word goes up to
unfoldable pub ends_word : ℕ → Bool
ends_word b = eqb b comment || is_blank b

unfoldable pub is_between : ℕ → ℕ → ℕ → Bool
is_between b low high = leb low b && leb b high

-- a letter, a digit or '_'
unfoldable pub is_of_name : ℕ → Bool
is_of_name b = is_between b 65 90 || is_between b 97 122 || is_between b 48 57 || eqb b 95

-- of an argument: of a word, and neither ',' nor ')'
unfoldable pub is_of_argument : ℕ → Bool
is_of_argument b = not (eqb b 44) && not (eqb b 41) && not (ends_word b)

-- what a run is of; a tag goes up to ']'
unfoldable pub is_of : Run → ℕ → Bool
is_of Blanks b = is_blank b
is_of Name b = is_of_name b
is_of Word b = not (ends_word b)
is_of Argument b = is_of_argument b
is_of Tag b = not (eqb b 93)

-- ---- runs

-- how many bytes of a kind a text begins with
unfoldable pub run_length : (ℕ → Bool) → List ℕ → ℕ
run_length p [] = 0
run_length p (b ∷ bs) = cond (p b) (suc (run_length p bs)) 0

-- where the run of bytes of a kind from a place on ends
abbrev pub run_end : (ℕ → Bool) → List ℕ → ℕ → ℕ
run_end p text at = at + run_length p (drop at text)

-- ---- what stands at a place

-- nothing, or a comment
unfoldable pub is_end : List ℕ → ℕ → Bool
is_end text at = leb (length text) at || eqb (byte_at text at) comment

-- .. or a blank
unfoldable pub is_word_end : List ℕ → ℕ → Bool
is_word_end text at = leb (length text) at || ends_word (byte_at text at)

-- this byte
unfoldable pub is_at : List ℕ → ℕ → ℕ → Bool
is_at text at b = ltb at (length text) && eqb (byte_at text at) b
