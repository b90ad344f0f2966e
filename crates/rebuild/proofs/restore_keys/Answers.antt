-- Words 2 and 3 are the keys.
use Rattle.rebuild.specs.Saved.{with_word}
use Rattle.rebuild.proofs.Restored.{both-keys}
use Rattle.rebuild.proofs.restore_keys.Goals as goal

pub returns : goal.returns
unfolding with_word
returns c = λ n m h.
    let words = c.restore_word.ensures n m h in
    let phases = c.restore_word-2.ensures n m words.0 in
    (phases.0, both-keys _ _ _ words.1 phases.1)
