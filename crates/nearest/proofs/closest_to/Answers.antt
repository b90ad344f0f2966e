use mathlib.Core.Path.{◌≡◌, ap, ap₂, ◌∙◌}
use Prim.Native.Nat.{ℕ, ◌+◌, ◌*◌, compare}
use lib.Ieee.{nearest}
use Rattle.nearest.specs.Large.{value_of}
use Rattle.nearest.proofs.Closest.{closest-by-middle}
use Rattle.nearest.proofs.closest_to.Goals as goal

pub returns : goal.returns
returns c =
    let holds : value_of c.copy_from_slice.new.self ≡ value_of c.args.b.now = ap value_of c.copy_from_slice.ensures.after in
    c.settle.ensures
    ∙ ap₂ (λ (x y : ℕ). nearest c.quotient-q.result (compare x y)) c.times-2.ensures (c.times.ensures ∙ ap (λ (v : ℕ). v * (2 * c.quotient-q.result + 1)) holds)
    ∙ closest-by-middle (value_of c.args.a.now) (value_of c.args.b.now) c.quotient-q.result c.quotient-q.ensures
