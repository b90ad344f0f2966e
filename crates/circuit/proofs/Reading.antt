-- What is read, by what was read of it.
use Rattle.std.proofs.Common.{◌≡◌, ◌+◌, ◌-◌, ℕ, List, suc, take, drop, true, false, Ok, Err, Result, set, arith}
use Rattle.std.specs.Prelude.{Float}
use Rattle.decimal.specs.Wholes.{whole_at}
use Rattle.decimal.specs.declared.answer.DecimalError.{DecimalError}
use Rattle.decimal.specs.declared.answer.Parsed.{Parsed}
use Rattle.circuit.specs.Arguments.{no_rates, argument_at, counted, arguments_left, arguments_at}
use Rattle.circuit.specs.Lines.{plain, bad_word, times, times_at, repeated, with_name, line_from, line_of}
use Rattle.circuit.specs.Names.{named}
use Rattle.circuit.specs.Runs.{is_of, run_end, is_end, is_at}
use Rattle.circuit.specs.Targets.{bad, qubit_in, qubit_at}
use Rattle.circuit.specs.declared.arguments.Argument.{Argument}
use Rattle.circuit.specs.declared.lines.Fault.TheVariants as Fault
use Rattle.circuit.specs.declared.lines.Item.TheVariants as Item
use Rattle.circuit.specs.declared.lines.Misread.{Misread}
use Rattle.circuit.specs.declared.lines.Name.{Name}
use Rattle.circuit.specs.declared.runs.Run.TheVariants as Run

-- ---- arguments

-- the arguments that are left, by the first of them
pub by_first : (text : List ℕ) (rates : List Float) (count to m n : ℕ) → n ≡ suc m → (r : Result Argument Misread) → r ≡ argument_at text to
    → counted r rates count (λ a. arguments_left m text (set rates count a.value) (count + 1) a.to) ≡ arguments_left n text rates count to
unfolding arguments_left
by_first text rates count to m n z r e = simp (z, e)

pub no_arguments : (text : List ℕ) (at : ℕ) → is_at text at 40 ≡ false → Ok (record { rates = no_rates; count = 0; to = at }) ≡ arguments_at text at
unfolding arguments_at
no_arguments text at h = simp h

-- ---- REPEAT

module _ (text : List ℕ) (from at digits : ℕ) (c : Parsed ℕ) (e : digits ≡ run_end (is_of Run.Blanks) text at) (k : c ≡ whole_at text digits) where
  pub by_number : (w : Result ℕ DecimalError) → c.value ≡ w → times text from digits c.end w ≡ repeated text from at
  unfolding repeated times_at
  by_number w h = grind arith

  pub no_number : (w : DecimalError) → c.value ≡ Err w → bad_word text Fault.Repeats digits ≡ repeated text from at
  unfolding times
  no_number w h = by_number (Err w) h

-- ---- the front of a line

module _ (text : List ℕ) (from : ℕ) (e : from ≡ run_end (is_of Run.Blanks) text 0) where
  pub no_line : is_end text from ≡ true → plain Item.Nothing from from ≡ line_of text
  unfolding line_of line_from
  no_line h = grind arith

  pub no_name : is_end text from ≡ false → is_at text from 125 ≡ false → (to : ℕ) → to ≡ run_end (is_of Run.Name) text from
      → (name : Name) → name ≡ named (take (to - from) (drop from text)) → name ≡ Name.Other → bad_word text Fault.Name from ≡ line_of text
  unfolding line_of line_from with_name
  no_name h k to f name g o = grind arith

-- ---- a qubit: the number c, and the word up to `to`

pub no_word : (text : List ℕ) (from to : ℕ) (c : Parsed ℕ) → c ≡ whole_at text from → to ≡ run_end (is_of Run.Word) text from → c.end ≡ to → to ≡ from
    → bad Fault.Qubit from to ≡ qubit_at text from
unfolding qubit_at qubit_in
no_word text from to c k e h z = grind arith
