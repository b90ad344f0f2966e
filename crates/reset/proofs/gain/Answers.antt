-- The first word of an entry is its weight, and the sum of two is written there.
use mathlib.Core.Path.{ap₂, ◌∙◌}
use lib.Ieee.{Float}
use Rattle.model.specs.Floats.{bits, plus}
use Rattle.reset.proofs.Revived.{gained-at}
use Rattle.reset.proofs.gain.Goals as goal

pub returns : goal.returns
returns c =
    let a = c.args in
    let sum = c.bits_of.ensures ∙ ap₂ (λ (x y : Float). bits (plus x y)) c.float_of.ensures c.float_of-more.ensures in
    gained-at a.size a.total a.store.now c.requires.0 c.entry_len-len.result c.entry_len-len.ensures a.to c.requires.1 a.from _ sum
