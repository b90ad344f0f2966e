-- The targets of a line: qubits, or pairs of qubits, with blanks before each, up to the line's end or a comment. Assumes nothing.
use Rattle.std.specs.Prelude.{Bool, cond, Result, Ok, Err, not, ◌&&◌, List, [], ◌∷◌, ℕ, zero, suc, eqb, ltb, length}
use Rattle.decimal.specs.Wholes.{whole_at}
use Rattle.decimal.specs.declared.answer.DecimalError.{DecimalError}
use Rattle.decimal.specs.declared.answer.DecimalError.TheVariants.{NoNumber, TooLarge, Infinite}
use Rattle.decimal.specs.declared.answer.Parsed.{Parsed}
use Rattle.circuit.specs.Runs.{is_of, run_end, is_end}
use Rattle.circuit.specs.declared.lines.Fault.{Fault}
use Rattle.circuit.specs.declared.lines.Fault.TheVariants.{Qubit, Range, Half, Same}
use Rattle.circuit.specs.declared.lines.Seen.{Seen}
use Rattle.circuit.specs.declared.lines.Seen.TheVariants.{End, At, Bad}
use Rattle.circuit.specs.declared.lines.Target.{Target}
use Rattle.circuit.specs.declared.runs.Run.TheVariants.{Blanks, Word}

-- ---- what is seen from one place to another

abbrev pub sees : Seen → ℕ → ℕ → Target
sees seen from to = record { seen = seen; from = from; to = to }

abbrev pub bad : Fault → ℕ → ℕ → Target
bad fault from to = sees (Bad fault) from to

-- ---- a qubit

-- a whole number below 64
unfoldable pub qubit_of : Result ℕ DecimalError → ℕ → ℕ → Target
qubit_of (Ok v) from to = cond (ltb v 64) (sees (At v v) from to) (bad Range from to)
qubit_of (Err NoNumber) from to = bad Qubit from to
qubit_of (Err TooLarge) from to = bad Range from to
qubit_of (Err Infinite) from to = bad Qubit from to

-- .. which is all of the word up to `to`
unfoldable pub qubit_in : Parsed ℕ → ℕ → ℕ → Target
qubit_in c from to = cond (eqb c.end to && not (eqb to from)) (qubit_of c.value from to) (bad Qubit from to)

unfoldable pub qubit_at : List ℕ → ℕ → Target
qubit_at text from = qubit_in (whole_at text from) from (run_end (is_of Word) text from)

-- .. if something stands there
unfoldable pub qubit_from : List ℕ → ℕ → Target
qubit_from text from = cond (is_end text from) (sees End from from) (qubit_at text from)

-- .. after blanks
unfoldable pub next_qubit : List ℕ → ℕ → Target
next_qubit text at = qubit_from text (run_end (is_of Blanks) text at)

-- ---- a pair

-- two qubits that differ
unfoldable pub pair_of : ℕ → ℕ → ℕ → ℕ → Target
pair_of p q from to = cond (eqb p q) (bad Same from to) (sees (At p q) from to)

-- the qubit p, which stands from `from` to `at`, and what is seen after it
unfoldable pub pair_with : ℕ → ℕ → ℕ → Target → Seen → Target
pair_with p from at b End = bad Half from at
pair_with p from at b (Bad fault) = bad fault b.from b.to
pair_with p from at b (At q r) = pair_of p q from b.to

unfoldable pub second_at : List ℕ → ℕ → ℕ → ℕ → Target
second_at text p from at = pair_with p from at (next_qubit text at) (next_qubit text at).seen

-- what is seen first
unfoldable pub pair_after : List ℕ → Target → Seen → Target
pair_after text a End = a
pair_after text a (Bad fault) = a
pair_after text a (At p q) = second_at text p a.from a.to

unfoldable pub next_pair : List ℕ → ℕ → Target
next_pair text at = pair_after text (next_qubit text at) (next_qubit text at).seen

-- ---- the targets

-- what the next call is on, from a place on: a qubit, as both of `At`, or a pair
unfoldable pub target_at : Bool → List ℕ → ℕ → Target
target_at pairs text at = cond pairs (next_pair text at) (next_qubit text at)

-- what one call is on: a pair, or a qubit as both
pub record Pair : Type 0 where
  pub p : ℕ
  pub q : ℕ

-- a target, if one is seen, and then those after it
unfoldable pub before : Seen → List Pair → List Pair
before (At p q) rest = record { p = p; q = q } ∷ rest
before End rest = []
before (Bad fault) rest = []

-- at most n targets
unfoldable pub targets_within : ℕ → Bool → List ℕ → ℕ → List Pair
targets_within zero pairs text at = []
targets_within (suc n) pairs text at = before (target_at pairs text at).seen (targets_within n pairs text (target_at pairs text at).to)

-- one after the other, up to the first place where none is seen: each has a byte or more, so that there are no more than bytes
unfoldable pub targets_from : Bool → List ℕ → ℕ → List Pair
targets_from pairs text at = targets_within (length text) pairs text at
