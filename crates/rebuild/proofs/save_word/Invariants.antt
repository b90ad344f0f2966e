-- The loop's invariant: the first i words saved are those of the first i entries.
use Rattle.std.proofs.Common.{◌≡◌, length, take}
use Rattle.rebuild.proofs.Words.{column}
use Rattle.rebuild.proofs.save_word.Given as goal

abbrev pub invariant-loop-i : goal.invariant-loop-i
invariant-loop-i l = (length l.saved ≡ 256) × (take l.i l.saved ≡ column l.j l.len l.i l.store)
