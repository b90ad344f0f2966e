use Rattle.std.proofs.Common.{◌≡◌, ℕ, length, drop, sym, ap, ◌∙◌, add-one, arith, rules}
use lib.Ieee.{nan}
use Rattle.model.specs.Lists.{every}
use Rattle.model.specs.Floats.{float, one_bits, up_to}
use Rattle.model.proofs.Lists.{every-next, every-stop, every-end}
use Rattle.arms.proofs.all_rates_sound.Goals as goal

pub loop-i-preserved : goal.loop-i-preserved
loop-i-preserved c =
    let l = c.loop-i in
    let fifteen : length c.args.rates ≡ 15 = search rules in
    ap (λ (k : ℕ). every (up_to (float one_bits)) (drop k c.args.rates)) (add-one l.i)
    ∙ every-next (up_to (float one_bits)) c.args.rates l.i nan (omega arith) (sym c.rate_sound.ensures ∙ c.if-not-rate_sound.false) ∙ l.invariant

pub returns-then-not-rate_sound : goal.returns-then-not-rate_sound
returns-then-not-rate_sound c =
    let l = c.loop-i in
    let fifteen : length c.args.rates ≡ 15 = search rules in
    sym (every-stop (up_to (float one_bits)) c.args.rates l.i nan (omega arith) (sym c.rate_sound.ensures ∙ c.if-not-rate_sound.true)) ∙ l.invariant

pub returns : goal.returns
returns c =
    let fifteen : length c.args.rates ≡ 15 = search rules in
    sym (every-end (up_to (float one_bits)) c.args.rates c.loop-i.i (omega arith)) ∙ c.loop-i.invariant
