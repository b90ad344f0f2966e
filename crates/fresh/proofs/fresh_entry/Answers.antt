-- The words before the rows are zeros but for the weight, the keys and the one coefficient, and the keys are those of the rows.
use Rattle.std.proofs.Common.{ℕ, replicate, ap, ◌∙◌}
use Rattle.model.specs.Entries.{phase_at}
use Rattle.model.specs.Keys.{bit, phase_loss_key}
use Rattle.model.specs.declared.Salts.{Salts}
use Rattle.fresh.proofs.Entry.{head-written}
use Rattle.fresh.proofs.fresh_entry.Goals as goal

pub returns : goal.returns
returns c =
    let s = c.args.size in
    head-written s (c.fill.ensures.after (λ y e. e) ∙ ap (λ (m : ℕ). replicate m 0) c.split_at_mut-head.ensures.front_len) c.fresh_rows.ensures _ _ c.requires.1 c.word_key-word_key.ensures
    (c.phase_loss_key-phase_loss_key.ensures ∙ ap (λ (m : Salts). phase_loss_key m s.n (phase_at c.fresh_rows.new.rows) (λ q. bit q 0)) c.usual_salts.ensures)
