-- Each test is one part of the definition's.
use Rattle.std.proofs.Common.{◌+◌, ◌*◌, refl, sym, ap, ◌∙◌}
use borrow.Author.Tests.{lt-leb, le-leb}
use Rattle.model.specs.Entries.{entry_of}
use Rattle.model.specs.Numbers.{rows_sound}
use Rattle.model.proofs.Entries.{part-tail}
use Rattle.checks.proofs.Words.{fits, fits_not, body-tests, coefs-lent}
use Rattle.checks.proofs.body_sound.Goals as goal
use Rattle.checks.proofs.body_sound.Goals.{then-e-largest-via-then-e-largest, then-e-largest-via-else-e-largest+then-count-k}

pub returns-then-e-largest : goal.returns-then-e-largest
unfolding entry_of
returns-then-e-largest c =
    let b = (entry_of c.args.size c.args.e.now).entry.body in
    elim c.then-e-largest.branch [
      | then-e-largest-via-then-e-largest w ↦ body-tests c.args.size b (sym (fits_not _ _ _ c.largest.ensures w.if-e-largest.true)) refl refl refl
      | then-e-largest-via-else-e-largest+then-count-k w ↦ body-tests c.args.size b (sym (fits _ _ _ c.largest.ensures w.if-e-largest.false)) (sym (lt-leb _ _ w.if-count-k.true)) refl refl
    ]

pub returns-then-coefs_sound : goal.returns-then-coefs_sound
unfolding entry_of
returns-then-coefs_sound c =
    let s = c.args.size in
    let w = c.args.e.now in
    body-tests s (entry_of s w).entry.body (sym (fits _ _ _ c.largest.ensures c.if-e-largest.false)) (sym (le-leb _ _ c.if-count-k.false))
    (sym c.if-coefs_sound.true ∙ coefs-lent s w c.coefs_sound.ensures) (c.rows_sound.ensures ∙ ap (rows_sound s.n) (part-tail (5 + 3 * s.k) w))

pub returns-else-coefs_sound : goal.returns-else-coefs_sound
unfolding entry_of
returns-else-coefs_sound c =
    let s = c.args.size in
    let w = c.args.e.now in
    c.if-coefs_sound.false
    ∙ body-tests s (entry_of s w).entry.body (sym (fits _ _ _ c.largest.ensures c.if-e-largest.false)) (sym (le-leb _ _ c.if-count-k.false))
    (sym c.if-coefs_sound.false ∙ coefs-lent s w c.coefs_sound.ensures) refl
