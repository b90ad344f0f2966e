use Rattle.std.proofs.Common.{◌∙◌, rules, tests}
use Rattle.std.proofs.lemmas.Iterator.{YieldsList-from_slice}
use Rattle.std.proofs.lemmas.Iterator.Search.{all_from_yields_List}
use Rattle.model.specs.Floats.{finite_from_zero}
use Rattle.trials.proofs.Places.{every-all}
use Rattle.trials.proofs.cutoffs_sound.Goals as goal

pub returns : goal.returns
returns c =
    all_from_yields_List finite_from_zero _ _ c.all.result c.all.ensures.ran (YieldsList-from_slice c.args.cutoffs.now cc) (λ x b q k. search (rules, tests))
    ∙ every-all finite_from_zero c.args.cutoffs.now
