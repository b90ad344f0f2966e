use Rattle.std.proofs.Common.{sym, ◌∙◌}
use Rattle.model.specs.Calls.{gave}
use Rattle.runs.specs.Runs.{calls_in}
use Rattle.runs.proofs.Promised.{after-done, after-refused}
use Rattle.runs.proofs.run_after.Goals as goal

pub returns-then-number-ne0 : goal.returns-then-number-ne0
returns-then-number-ne0 c =
    let a = c.args in
    sym (after-refused a.room (calls_in a.room.bytes a.calls.now) (gave a.a a.store.now) a.log.now a.text.now c.if-number-ne0.true)

pub returns : goal.returns
returns c =
    let a = c.args in
    c.run_calls.ensures ∙ sym (after-done a.room (calls_in a.room.bytes a.calls.now) (gave a.a a.store.now) a.log.now a.text.now c.if-number-ne0.false)
