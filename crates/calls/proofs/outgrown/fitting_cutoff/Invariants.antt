-- The invariant: what is left to try gives the answer.
use Rattle.std.proofs.Common.{◌≡◌, ◌-◌, ◌≤◌, length}
use Rattle.model.specs.Calls.{held}
use Rattle.calls.specs.Instructions.{call_on}
use Rattle.calls.specs.Outgrown.{fitting, fitting_cutoff}
use Rattle.calls.proofs.outgrown.fitting_cutoff.Given as goal

abbrev pub invariant-loop : goal.invariant-loop
invariant-loop l =
    let c = call_on l.o in
    let x = held l.h l.store in
    (length l.store ≤ length l.scratch) × (fitting c x (65 - l.counter) l.cutoff ≡ fitting_cutoff c x)
