-- The call is made on the words of the copy.
use lib.ListN.{drop}
use Rattle.calls.specs.Instructions.{call_on}
use Rattle.calls.proofs.Copies.{copy-lent}
use Rattle.calls.proofs.Outgrowing.{answer-made}
use Rattle.calls.proofs.outgrown.answer_on_copy.Goals as goal

pub returns : goal.returns
returns c =
    let a = c.args in
    answer-made (call_on a.o) a.h c.make.ensures.is
    (copy-lent a.store.now a.scratch.now a.room c.requires.0 c.requires.1 c.copy.ensures (drop a.room a.scratch.now))
