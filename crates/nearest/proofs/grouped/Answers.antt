use mathlib.Core.Path.{◌≡◌, sym, ap, ◌∙◌, subst}
use Prim.Native.Nat.{ℕ, ◌*◌, ◌/◌, ◌%◌, ◌^◌, ◌<◌}
use native.Mathlib.Nat.{one-le-pow}
use lib.ListN.{length}
use Rattle.nearest.specs.Large.{value_of}
use Rattle.nearest.proofs.Large.{in-groups, fewer}
use Rattle.nearest.proofs.grouped.Goals as goal

pub raised-requires : goal.raised-requires
raised-requires c =
    let whole : value_of c.args.a.now * c.args.many ^ (c.args.count / c.args.group) * c.args.factor ^ (c.args.count % c.args.group) ≡ value_of c.args.a.now * c.args.factor ^ c.args.count = in-groups (value_of c.args.a.now) c.args.factor c.args.group c.args.count c.args.many c.requires.many_bound.4 in
    let room : value_of c.args.a.now * c.args.many ^ (c.args.count / c.args.group) * c.args.factor ^ (c.args.count % c.args.group) < 256 ^ length c.args.a.now = subst (λ (z : ℕ). z < 256 ^ length c.args.a.now) (sym whole) c.requires.count_bound in
    let a = c.args in (
      c.requires.many_bound.0,
      subst (λ (z : ℕ). 0 < z) (sym c.requires.many_bound.4) (one-le-pow a.group a.factor c.requires.many_bound.2),
      fewer (value_of a.a.now * a.many ^ (a.count / a.group)) (a.factor ^ (a.count % a.group)) (256 ^ length a.a.now) (one-le-pow (a.count % a.group) a.factor c.requires.many_bound.2) room,
    )

pub raised-requires-2 : goal.raised-requires-2
raised-requires-2 c =
    let whole : value_of c.args.a.now * c.args.many ^ (c.args.count / c.args.group) * c.args.factor ^ (c.args.count % c.args.group) ≡ value_of c.args.a.now * c.args.factor ^ c.args.count = in-groups (value_of c.args.a.now) c.args.factor c.args.group c.args.count c.args.many c.requires.many_bound.4 in
    let room : value_of c.args.a.now * c.args.many ^ (c.args.count / c.args.group) * c.args.factor ^ (c.args.count % c.args.group) < 256 ^ length c.args.a.now = subst (λ (z : ℕ). z < 256 ^ length c.args.a.now) (sym whole) c.requires.count_bound in
    (c.requires.many_bound.1, c.requires.many_bound.2, rw (c.raised.ensures, c.raised.auto.a) room)

pub returns : goal.returns
returns c =
    let whole : value_of c.args.a.now * c.args.many ^ (c.args.count / c.args.group) * c.args.factor ^ (c.args.count % c.args.group) ≡ value_of c.args.a.now * c.args.factor ^ c.args.count = in-groups (value_of c.args.a.now) c.args.factor c.args.group c.args.count c.args.many c.requires.many_bound.4 in
    c.raised-2.ensures ∙ ap (λ (z : ℕ). z * c.args.factor ^ (c.args.count % c.args.group)) c.raised.ensures ∙ whole
