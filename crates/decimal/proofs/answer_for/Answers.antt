use mathlib.Core.Path.{◌≡◌, refl, sym, ap, ◌∙◌}
use mathlib.Core.Bool.{false}
use lib.Ieee.{inf, binary64, lt, of_bits}
use lib.Ieee.Scale.{finite}
use Rattle.decimal.proofs.Answers.{is_finite, is-infinite}
use Rattle.decimal.proofs.answer_for.Goals as goal

infinity : of_bits binary64 0x7ff0_0000_0000_0000 ≡ inf false
unfolding of_bits
infinity = refl

pub returns-then-size : goal.returns-then-size
returns-then-size c =
    -- the test says whether the size is finite
    let tested : finite c.args.size ≡ lt c.args.size (of_bits binary64 0x7ff0_0000_0000_0000) = sym (ap (lt c.args.size) infinity ∙ c.requires) in
    let a = c.args in
    is_finite a.negative a.size a.end c.with_sign.result (tested ∙ c.if-size.true) c.with_sign.ensures

pub returns : goal.returns
returns c =
    let tested : finite c.args.size ≡ lt c.args.size (of_bits binary64 0x7ff0_0000_0000_0000) = sym (ap (lt c.args.size) infinity ∙ c.requires) in
    let a = c.args in
    c.refusal.ensures ∙ is-infinite a.negative a.size a.end (tested ∙ c.if-size.false)
