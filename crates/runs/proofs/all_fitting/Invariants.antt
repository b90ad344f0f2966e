-- What is left to test gives the whole.
use Rattle.std.proofs.Common.{◌≡◌, drop}
use Rattle.model.specs.Lists.{groups, every}
use Rattle.perform.specs.Encoding.{call_words, fitting}
use Rattle.runs.proofs.all_fitting.Given as goal

abbrev pub invariant-loop-i : goal.invariant-loop-i
invariant-loop-i l = every (fitting l.shown) (drop l.i (groups call_words l.count l.calls)) ≡ every (fitting l.shown) (groups call_words l.count l.calls)
