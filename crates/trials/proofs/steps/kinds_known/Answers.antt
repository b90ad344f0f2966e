use Rattle.std.proofs.Common.{◌∙◌, rules, tests}
use Rattle.std.proofs.lemmas.Iterator.{YieldsList-from_slice}
use Rattle.std.proofs.lemmas.Iterator.Search.{all_from_yields_List}
use Rattle.trials.specs.Steps.{known}
use Rattle.trials.proofs.Places.{every-all}
use Rattle.trials.proofs.steps.kinds_known.Goals as goal

pub returns : goal.returns
returns c =
    all_from_yields_List known _ _ c.all.result c.all.ensures.ran (YieldsList-from_slice c.args.kinds.now cc) (λ x b q k. search (rules, tests))
    ∙ every-all known c.args.kinds.now
