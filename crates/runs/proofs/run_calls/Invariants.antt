-- What is left of the calls that it makes leads to where all of them lead.
use Rattle.std.proofs.Common.{drop}
use Rattle.model.specs.Calls.{held}
use Rattle.model.specs.Demand3.{made_of}
use Rattle.model.specs.Known.{Known}
use Rattle.runs.specs.Runs.{calls_in}
use Rattle.runs.proofs.Filling.{Running}
use Rattle.runs.proofs.run_calls.Given as goal

abbrev pub invariant-loop-made : goal.invariant-loop-made
invariant-loop-made l =
    Known l.sure (held l.header l.store)
    × Running l.words l.bytes (made_of l.stop (calls_in l.bytes l.calls) (held l.initial.header l.initial.store)) (held l.initial.header l.initial.store) l.initial.log l.initial.text l.made (made_of l.stop (drop l.made (calls_in l.bytes l.calls)) (held l.header l.store)) (held l.header l.store) l.log l.text
