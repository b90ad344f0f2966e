use mathlib.Core.Path.{sym, ap, ◌∙◌}
use Prim.Native.Nat.{ℕ, ◌*◌, ◌-◌, ◌^◌}
use native.Mathlib.Nat.{mul-pos}
use native.Mathlib.Omega.{arith}
use lib.Pow.{pow_pos}
use Rattle.nearest.proofs.Large.{all-doublings}
use Rattle.nearest.proofs.Exacts.{ten-pos}
use Rattle.nearest.proofs.exact_in.Goals as goal

pub rounded-requires : goal.rounded-requires
rounded-requires c =
    let p = c.requires in
    record {
      dividend = record { small = rw c.numerator.ensures p.small; room = rw (c.numerator.ensures, c.numerator.auto.n) p.dividend };
      divisor = rw (c.denominator.ensures, c.denominator.auto.v ∙ p.same) p.divisor;
      same = c.denominator.auto.v ∙ p.same ∙ sym c.numerator.auto.n;
      place = p.place ∙ sym c.numerator.auto.n;
      positive = rw c.denominator.ensures (mul-pos (ten-pos c.args.down) (pow_pos 53));
      most = omega arith;
      normal = λ h. rw (c.denominator.ensures, c.numerator.ensures) (p.normal (omega arith));
    }

pub returns : goal.returns
returns c =
    let a = c.args in
    c.rounded.ensures.is (a.m * 10 ^ a.up) (10 ^ a.down) (ten-pos a.down)
    (ap (λ (z : ℕ). z * 2 ^ (1074 - 6 * a.count)) c.numerator.ensures ∙ all-doublings (a.m * 10 ^ a.up) a.count c.requires.most)
    c.denominator.ensures
