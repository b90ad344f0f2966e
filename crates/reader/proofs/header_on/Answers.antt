use mathlib.Core.Path.{◌≡◌, refl, ◌∙◌}
use native.Mathlib.Omega.{arith}
use lib.ListN.{length}
use Rattle.reader.proofs.Sheets.{first-long, first_field, header_is}
use Rattle.reader.proofs.header_on.Goals as goal

pub number_at-n-requires : goal.number_at-n-requires
number_at-n-requires c =
    let long : length c.args.first.now ≡ 127 = first-long c.args.first.now c.requires in
    omega (arith, long)

pub number_at-k-requires : goal.number_at-k-requires
number_at-k-requires c =
    let long : length c.args.first.now ≡ 127 = first-long c.args.first.now c.requires in
    omega (arith, long)

pub number_at-capacity-requires : goal.number_at-capacity-requires
number_at-capacity-requires c =
    let long : length c.args.first.now ≡ 127 = first-long c.args.first.now c.requires in
    omega (arith, long)

pub number_at-count-requires : goal.number_at-count-requires
number_at-count-requires c =
    let long : length c.args.first.now ≡ 127 = first-long c.args.first.now c.requires in
    omega (arith, long)

pub number_at-requires : goal.number_at-requires
number_at-requires c =
    let long : length c.args.first.now ≡ 127 = first-long c.args.first.now c.requires in
    omega (arith, long)

pub number_at-requires-2 : goal.number_at-requires-2
number_at-requires-2 c =
    let long : length c.args.first.now ≡ 127 = first-long c.args.first.now c.requires in
    omega (arith, long)

pub returns : goal.returns
returns c =
    let f = first_field c.args.first.now c.requires in
    c.header.ensures
    ∙ rw (c.float_of-cutoff.ensures, c.float_of-threshold.ensures)
    (header_is c.args.first.now c.requires
    (c.number_at-n.ensures _ (f 0 0 refl (omega arith)))
    (c.number_at-k.ensures _ (f 21 1 refl (omega arith)))
    (c.number_at-capacity.ensures _ (f 42 2 refl (omega arith)))
    (c.number_at-count.ensures _ (f 63 3 refl (omega arith)))
    (c.number_at.ensures _ (f 84 4 refl (omega arith)))
    (c.number_at-2.ensures _ (f 105 5 refl (omega arith))))
