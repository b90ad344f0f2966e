-- The loop's invariant: the first i entries have their word back, whatever stands behind.
use Rattle.std.proofs.Common.{ℕ, ◌≤◌, get_or}
use Rattle.model.specs.Sound.{Packed}
use Rattle.entries.proofs.Turns.{Done}
use Rattle.rebuild.specs.Saved.{with_word}
use Rattle.rebuild.proofs.restore_word.Given as goal

abbrev pub invariant-loop-i : goal.invariant-loop-i
invariant-loop-i l = (n : ℕ) → l.count ≤ n → Packed l.size n l.initial.store → Done l.size n (λ k. with_word l.j (get_or l.saved k 0)) l.i l.initial.store l.store
