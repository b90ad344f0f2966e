use mathlib.Core.Path.{◌∙◌}
use native.Mathlib.Omega.{arith}
use Rattle.decimal.proofs.Answers.{too_many, far-below, lowered, raised, less-raised}
use Rattle.decimal.proofs.answer_of.Goals as goal

pub returns-then-m-ge10000000000000000000 : goal.returns-then-m-ge10000000000000000000
returns-then-m-ge10000000000000000000 c =
    let a = c.args in
    c.refusal.ensures ∙ too_many a.negative a.m a.f a.x (omega arith)

pub returns-then-x-ge400 : goal.returns-then-x-ge400
returns-then-x-ge400 c =
    let a = c.args in
    c.divided.ensures ∙ far-below a.negative a.m a.f a.x c.if-m-ge10000000000000000000.false c.if-x.true c.if-x-ge400.true

pub returns-then-x : goal.returns-then-x
returns-then-x c =
    let a = c.args in
    c.divided-then-x.ensures ∙ lowered a.negative a.m a.f a.x c.if-m-ge10000000000000000000.false c.if-x.true

pub returns-then-f-x : goal.returns-then-f-x
returns-then-f-x c =
    let a = c.args in
    c.multiplied.ensures ∙ raised a.negative a.m a.f a.x c.if-m-ge10000000000000000000.false c.if-x.false c.if-f-x.true

pub returns : goal.returns
returns c =
    let a = c.args in
    c.divided-2.ensures ∙ less-raised a.negative a.m a.f a.x c.if-m-ge10000000000000000000.false c.if-x.false c.if-f-x.false
