use Rattle.std.proofs.Common.{◌≡◌, refl, sym, ap, ◌∙◌, arith}
use Rattle.model.specs.Lists.{all_below}
use Rattle.model.specs.Numbers.{fits_in, coef_sound}
use Rattle.model.proofs.Lists.{all_none}
use Rattle.checks.proofs.Ors.{largest-fits, counted_next}
use Rattle.checks.proofs.counted_sound.Goals as goal

pub loop-j-init : goal.loop-j-init
unfolding fits_in
loop-j-init c = sym (all_none _)

pub loop-j-preserved : goal.loop-j-preserved
loop-j-preserved c =
    counted_next c.args.count c.args.coefs.now c.loop-j.any c.exponent_next.result c.exponent_next-in-loop-j.result c.loop-j.j c.loop-j.invariant (omega arith)
    c.exponent_next.ensures c.exponent_next-in-loop-j.ensures

pub returns : goal.returns
returns c =
    let e : c.loop-j.j ≡ c.args.used = omega arith in
    largest-fits 11 2047 c.loop-j.any refl ∙ c.loop-j.invariant ∙ ap (all_below (coef_sound c.args.count c.args.coefs.now)) e
