-- What it leaves is what the definitions leave, and they keep the promise.
use Rattle.std.proofs.Common.{sym, ◌∙◌}
use Rattle.model.specs.Calls.{read}
use Rattle.runs.proofs.Promised.{start-known, ran-unfit, ran_on-start}
use Rattle.runs.proofs.run_sheet.Goals as goal

pub returns-then-not-fits : goal.returns-then-not-fits
returns-then-not-fits c =
    let a = c.args in
    let b = ran-unfit a.room a.calls.now (read a.sheet.now) a.store.now a.log.now a.text.now (sym c.fits.ensures ∙ c.if-not-fits.true) c.unfit_run.ensures in
    record { exact = b.0; promise = b.1 }

pub run_after-requires : goal.run_after-requires
run_after-requires c =
    let a = c.args in
    (sym c.fits.ensures ∙ c.if-not-fits.false, start-known (read a.sheet.now) a.store.now c.read_sheet-a.result c.read_sheet-a.new.store c.read_sheet-a.ensures)

pub returns : goal.returns
returns c =
    let a = c.args in
    let b = ran_on-start a.room a.calls.now (read a.sheet.now) a.store.now a.log.now a.text.now c.read_sheet-a.result c.read_sheet-a.new.store (sym c.fits.ensures ∙ c.if-not-fits.false) c.read_sheet-a.ensures c.run_after.ensures in
    record { exact = b.0; promise = b.1 }
