-- A word written is a field of the entry.
use Rattle.rebuild.proofs.Words.{put}
use Rattle.rebuild.proofs.put_word.Goals as goal

pub returns : goal.returns
returns c = put c.args.size c.args.j c.args.v c.args.e.now c.requires.0 c.requires.1
