-- The invariant: the indices up to place j rise.
use Rattle.std.proofs.Common.{ℕ, ◌+◌, ◌<◌}
use Rattle.model.specs.Entries.{index_at}
use Rattle.likeness.proofs.indices_rise.Given as goal

abbrev pub invariant-loop-j : goal.invariant-loop-j
invariant-loop-j l = (k : ℕ) → k + 1 < l.j → index_at l.coefs k < index_at l.coefs (k + 1)
