use mathlib.Core.Path.{◌≡◌, refl, ap₂, ◌∙◌}
use mathlib.Core.List.{List, [], ◌∷◌}
use Prim.Native.Nat.{ℕ, ◌*◌}
use native.Mathlib.Omega.{arith}
use lib.ListN.{length}
use Rattle.reader.specs.Reading.{lines_on}
use Rattle.reader.proofs.Lined.{lines_long, field_at}
use Rattle.reader.proofs.Entry.{head-written}
use Rattle.reader.proofs.read_head.Goals as goal

pub number_at-requires : goal.number_at-requires
number_at-requires c =
    let long : length c.args.text.now ≡ length (lines_on c.args.text.now) * 64 = lines_long c.args.text.now c.requires.0 in
    omega (arith, long, c.requires.1)

pub number_at-requires-2 : goal.number_at-requires-2
number_at-requires-2 c =
    let long : length c.args.text.now ≡ length (lines_on c.args.text.now) * 64 = lines_long c.args.text.now c.requires.0 in
    omega (arith, long, c.requires.1)

pub number_at-requires-3 : goal.number_at-requires-3
number_at-requires-3 c =
    let long : length c.args.text.now ≡ length (lines_on c.args.text.now) * 64 = lines_long c.args.text.now c.requires.0 in
    omega (arith, long, c.requires.1)

pub returns : goal.returns
returns c =
    let t = c.args.text.now in
    let f = field_at t c.requires.0 in
    head-written c.args.e.now c.number_at.result c.number_at-2.result c.number_at-3.result c.requires.2
    ∙ ap₂ (λ (x : ℕ) (y : List ℕ). x ∷ y) (c.number_at.ensures _ (f 0 0 0 refl c.requires.1 (omega arith)))
    (ap₂ (λ (x z : ℕ). x ∷ 0 ∷ 0 ∷ z ∷ []) (c.number_at-2.ensures _ (f 21 0 1 refl c.requires.1 (omega arith))) (c.number_at-3.ensures _ (f 42 0 2 refl c.requires.1 (omega arith))))
