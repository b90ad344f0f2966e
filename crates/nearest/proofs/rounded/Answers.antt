use mathlib.Core.Path.{◌≡◌, sym, ap, ◌∙◌, subst}
use mathlib.Core.Logic.{inl, inr}
use Prim.Native.Nat.{ℕ, ◌+◌, ◌*◌, ◌^◌, ◌≤◌, ◌<◌}
use native.Mathlib.Nat.{mul-lt-mul_of_pos_right, eq-zero-or-pos}
use native.Mathlib.Omega.{arith}
use lib.ListN.{length}
use lib.Pow.{pow_pos}
use lib.Ieee.Nearest.{closest}
use Rattle.nearest.specs.Large.{value_of}
use Rattle.nearest.proofs.Scaled.{closest-most, closest-least, within-limit, doubled-once, lifted, lifted-closest}
use Rattle.nearest.proofs.Patterns.{is-rounded}
use Rattle.nearest.proofs.rounded.Goals as goal

pub closest_to-q-requires : goal.closest_to-q-requires
closest_to-q-requires c =
    -- v, scaled
    let above_zero : 0 < value_of c.scale-k.new.v = omega (arith, c.scale-k.ensures.0.above) in
    let long : length c.scale-k.new.v ≡ length c.args.n.now = c.scale-k.auto.v ∙ c.requires.same in
    let wide : value_of c.scale-k.new.v * 2 ^ 56 < 256 ^ length c.scale-k.new.v = let n = c.args.n.now in
    let v = c.args.v.now in
    let l : value_of v * 2 ^ 57 < 256 ^ length n = subst (λ (z : ℕ). value_of v * 2 ^ 57 < 256 ^ z) c.requires.same c.requires.divisor in
    subst (λ (z : ℕ). value_of c.scale-k.new.v * 2 ^ 56 < 256 ^ z) (sym long)
    (within-limit (value_of n) (value_of v) c.scale-k.result (value_of c.scale-k.new.v) (2 ^ 56) (256 ^ length n) c.scale-k.ensures.0 (omega (arith, l)) (omega (arith, c.requires.dividend.room))) in
    -- n × 2^53 is below v × 2^53
    let below : value_of c.times.new.a < value_of c.scale-k.new.v * 2 ^ 53 = subst (λ (z : ℕ). z < value_of c.scale-k.new.v * 2 ^ 53) (sym c.times.ensures)
    (mul-lt-mul_of_pos_right c.scale-k.ensures.0.above (pow_pos 53)) in
    record {
      dividend = c.times.auto.a ∙ sym long;
      place = c.scale-k.auto.room ∙ c.requires.place ∙ sym long;
      wide = wide;
      positive = above_zero;
      small = below;
    }

pub pattern-requires : goal.pattern-requires
pattern-requires c =
    -- v, scaled
    let above_zero : 0 < value_of c.scale-k.new.v = omega (arith, c.scale-k.ensures.0.above) in
    -- with a lift, v was doubled
    let doubled : 0 < c.scale-k.result + c.args.lift → 0 < c.scale-k.result = λ h. elim (eq-zero-or-pos c.args.lift) [
      | inl z ↦ omega (arith, z)
      | inr g ↦ doubled-once (value_of c.args.n.now) (value_of c.args.v.now) c.scale-k.result (value_of c.scale-k.new.v) c.scale-k.ensures.0 (c.requires.normal g)
    ] in
    -- n × 2^53 is below v × 2^53
    let below : value_of c.times.new.a < value_of c.scale-k.new.v * 2 ^ 53 = subst (λ (z : ℕ). z < value_of c.scale-k.new.v * 2 ^ 53) (sym c.times.ensures)
    (mul-lt-mul_of_pos_right c.scale-k.ensures.0.above (pow_pos 53)) in
    let is-closest : c.closest_to-q.result ≡ closest (value_of c.args.n.now * 2 ^ 53) (value_of c.scale-k.new.v) = c.closest_to-q.ensures ∙ ap (λ (z : ℕ). closest z (value_of c.scale-k.new.v)) c.times.ensures in
    let w = value_of c.scale-k.new.v in (
      subst (λ (z : ℕ). z ≤ 2 ^ 53) (sym c.closest_to-q.ensures) (closest-most (value_of c.times.new.a) w above_zero below),
      omega (arith, c.scale-k.ensures.1, c.requires.most),
      λ h. subst (λ (z : ℕ). 2 ^ 52 ≤ z) (sym is-closest) (closest-least (value_of c.args.n.now) w above_zero (c.scale-k.ensures.0.first (doubled h))),
    )

pub returns : goal.returns
returns c =
    -- v, scaled
    let above_zero : 0 < value_of c.scale-k.new.v = omega (arith, c.scale-k.ensures.0.above) in
    -- with a lift, v was doubled
    let doubled : 0 < c.scale-k.result + c.args.lift → 0 < c.scale-k.result = λ h. elim (eq-zero-or-pos c.args.lift) [
      | inl z ↦ omega (arith, z)
      | inr g ↦ doubled-once (value_of c.args.n.now) (value_of c.args.v.now) c.scale-k.result (value_of c.scale-k.new.v) c.scale-k.ensures.0 (c.requires.normal g)
    ] in
    let is-closest : c.closest_to-q.result ≡ closest (value_of c.args.n.now * 2 ^ 53) (value_of c.scale-k.new.v) = c.closest_to-q.ensures ∙ ap (λ (z : ℕ). closest z (value_of c.scale-k.new.v)) c.times.ensures in
    let a = c.args in
    let n = value_of a.n.now in
    let v = value_of a.v.now in
    let w = value_of c.scale-k.new.v in
    let e = c.scale-k.ensures.0 in
    is-rounded (n * 2 ^ a.lift) v (c.scale-k.result + a.lift) (w * 2 ^ a.lift) c.closest_to-q.result c.pattern.result
    (lifted n v c.scale-k.result w a.lift e doubled)
    (is-closest ∙ lifted-closest n v c.scale-k.result w a.lift e above_zero)
    c.pattern.ensures
