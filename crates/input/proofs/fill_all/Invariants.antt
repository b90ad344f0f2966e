-- The window is filled up to its length at most.
use Rattle.std.proofs.Common.{◌≤◌, ◌-◌, ◌≡◌, length}
use Rattle.input.proofs.fill_all.Given as goal

abbrev pub invariant-loop-fill : goal.invariant-loop-fill
invariant-loop-fill l = (l.fill ≤ length l.bytes) × (length l.bytes ≡ length l.initial.bytes)

abbrev pub decreases-loop-fill : goal.decreases-loop-fill
decreases-loop-fill l = length l.initial.bytes - l.fill
