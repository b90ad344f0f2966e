-- The invariant: each h is the word key of its rows below i.
use Rattle.std.proofs.Common.{◌≡◌}
use Rattle.keys.specs.Tables.{key_of_rows}
use Rattle.keys.proofs.four_word_keys.Given as goal

abbrev pub invariant-loop-i : goal.invariant-loop-i
invariant-loop-i l = (l.ha ≡ key_of_rows l.i l.a) × (l.hb ≡ key_of_rows l.i l.b) × (l.hc ≡ key_of_rows l.i l.c) × (l.hd ≡ key_of_rows l.i l.d)
