use mathlib.Core.Path.{◌≡◌, sym, ap, ◌∙◌}
use mathlib.Core.List.{List}
use Prim.Native.Nat.{ℕ, ◌+◌, ◌<◌}
use native.Mathlib.Numerals.{add-one}
use native.Mathlib.Omega.{arith}
use lib.Ieee.{Float}
use lib.ListN.{length, take, drop, get_or, set, length-set, length-drop, length-map}
use lib.Seq.{take-suc, take-suc-set, take_all, get_or-drop}
use Rattle.model.specs.Floats.{float}
use Rattle.model.proofs.Lists.{get_or-mapped}
use Rattle.perform.specs.Encoding.{rate_in, rates_in}
use Rattle.perform.proofs.rates.Goals as goal

module _ (w : List ℕ) (l : length w ≡ 18) where
  all-long : length (rates_in w) ≡ 15
  all-long = length-map (drop 3 w) float ∙ (omega (arith, length-drop 3 w))

  rate-next : (all : List Float) (r : Float) (i : ℕ) → i < 15 → length all ≡ 15 → r ≡ rate_in w i → take i all ≡ take i (rates_in w) → take (i + 1) (set all i r) ≡ take (i + 1) (rates_in w)
  rate-next all r i h a e p =
      let d = float 0 in
      let at : r ≡ get_or (rates_in w) i d = e ∙ sym (get_or-mapped float (drop 3 w) i 0 d (omega (arith, length-drop 3 w)) ∙ ap float (get_or-drop 3 w i 0)) in
      rw (add-one i, take-suc-set all i r (omega arith), take-suc (rates_in w) i d (omega (arith, all-long)), p, at)

pub loop-i-preserved : goal.loop-i-preserved
loop-i-preserved c =
    let l = c.loop-i in
    (simp length-set l.invariant.0, rate-next c.args.call.now c.requires l.all c.rate.result l.i c.loop-i-test.true l.invariant.0 c.rate.ensures l.invariant.1)

pub returns : goal.returns
returns c =
    let l = c.loop-i in
    let w = c.args.call.now in
    sym (take_all l.i l.all (omega (arith, c.loop-i-test.false, l.invariant.0))) ∙ l.invariant.1 ∙ take_all l.i (rates_in w) (omega (arith, c.loop-i-test.false, all-long w c.requires))
