-- Whether a pass goes on. Assumes nothing.
use Rattle.std.specs.Prelude.{Bool, true, false}
use Rattle.passes.specs.declared.Outcome.{Outcome}
use Rattle.passes.specs.declared.Outcome.TheVariants.{Going, Done, Bad, Rates, TooLong, Failed, Cut, TooDeep, NoRepeat, Unclosed, Refused, TooMuchLost, Unwritten, NoStep, TooManySteps}
use Rattle.passes.specs.declared.Pass.{Pass}

unfoldable pub goes : Outcome → Bool
goes Going = true
goes Done = false
goes (Bad f) = false
goes Rates = false
goes TooLong = false
goes Failed = false
goes Cut = false
goes TooDeep = false
goes NoRepeat = false
goes (Unclosed line) = false
goes (Refused number p q) = false
goes (TooMuchLost lost) = false
goes Unwritten = false
goes NoStep = false
goes TooManySteps = false

abbrev pub is_going : Pass → Bool
is_going p = goes p.outcome
