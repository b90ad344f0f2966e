-- Lines as the definitions read them, by computing.
use mathlib.Core.Path.{◌≡◌, refl}
use mathlib.Core.Bool.{true, false}
use mathlib.Core.List.{List, [], ◌∷◌}
use Prim.Native.Nat.{ℕ}
use Rattle.decimal.specs.Digits.{is_digit, digits, number_from}
use Rattle.decimal.specs.Wholes.{whole_at}
use Rattle.circuit.specs.Arguments.{arguments_at}
use Rattle.circuit.specs.Lines.{alone_to, alone, tag_at, tag_verdict, opened_at, opened, times, times_at, repeated, targets_missing, called, argued, with_arguments, instruction, judged, tagged, with_tag, with_name, line_from, line_of}
use Rattle.circuit.specs.Names.{capital, spells, named, named_error, named_channel, named_rest}
use Rattle.circuit.specs.Runs.{is_blank, ends_word, is_between, is_of_name, is_of, run_length, is_end, is_word_end, is_at}
use Rattle.circuit.specs.Targets.{qubit_of, qubit_in, qubit_at, qubit_from, next_qubit, pair_of, pair_with, second_at, pair_after, next_pair, target_at, before, targets_within, targets_from}
use Rattle.circuit.specs.declared.lines.Act.TheVariants.{Cnot}
use Rattle.circuit.specs.declared.lines.Item.TheVariants.{Call, Repeat}

-- "CX 0 1  2 13# 4"
abbrev gates : List ℕ
gates = 67 ∷ 88 ∷ 32 ∷ 48 ∷ 32 ∷ 49 ∷ 32 ∷ 32 ∷ 50 ∷ 32 ∷ 49 ∷ 51 ∷ 35 ∷ 32 ∷ 52 ∷ []

-- two pairs, up to the comment
gates-targets : targets_from true gates 2 ≡ record { p = 0; q = 1 } ∷ record { p = 2; q = 13 } ∷ []
unfolding is_digit digits number_from whole_at is_blank ends_word is_of run_length is_end qubit_of qubit_in qubit_at qubit_from next_qubit pair_of pair_with second_at pair_after next_pair target_at before targets_within targets_from
gates-targets = refl

-- four qubits
gates-qubits : targets_from false gates 2 ≡ record { p = 0; q = 0 } ∷ record { p = 1; q = 1 } ∷ record { p = 2; q = 2 } ∷ record { p = 13; q = 13 } ∷ []
unfolding is_digit digits number_from whole_at is_blank ends_word is_of run_length is_end qubit_of qubit_in qubit_at qubit_from next_qubit target_at before targets_within targets_from
gates-qubits = refl

gates-act : (line_of gates).item ≡ Call Cnot
unfolding capital spells named is_blank ends_word is_between is_of_name is_of run_length is_end is_word_end is_at tag_at tag_verdict arguments_at targets_missing called argued with_arguments instruction judged tagged with_tag with_name line_from line_of
gates-act = refl

gates-begin : (line_of gates).targets ≡ 2
unfolding capital spells named is_blank ends_word is_between is_of_name is_of run_length is_end is_word_end is_at tag_at tag_verdict arguments_at targets_missing called argued with_arguments instruction judged tagged with_tag with_name line_from line_of
gates-begin = refl

-- "REPEAT 12 {"
abbrev block : List ℕ
block = 82 ∷ 69 ∷ 80 ∷ 69 ∷ 65 ∷ 84 ∷ 32 ∷ 49 ∷ 50 ∷ 32 ∷ 123 ∷ []

block-times : (line_of block).item ≡ Repeat 12
unfolding is_digit digits number_from whole_at capital spells named named_error named_channel named_rest is_blank ends_word is_between is_of_name is_of run_length is_end is_word_end is_at tag_at tag_verdict alone_to alone opened_at opened times times_at repeated instruction judged tagged with_tag with_name line_from line_of
block-times = refl
