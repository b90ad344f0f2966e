use Rattle.std.proofs.Common.{sym, ◌∙◌}
use Rattle.runs.specs.Runs.{ran_on}
use Rattle.runs.proofs.run.Goals as goal

pub run_calls-requires : goal.run_calls-requires
run_calls-requires c = (sym c.fits.ensures ∙ c.if-fits.true, tt)

pub returns-then-fits : goal.returns-then-fits
unfolding ran_on
returns-then-fits c = rw (sym c.fits.ensures ∙ c.if-fits.true) c.run_calls.ensures

pub returns : goal.returns
unfolding ran_on
returns c = rw (sym c.fits.ensures ∙ c.if-fits.false)
