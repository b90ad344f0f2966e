use mathlib.Core.Path.{◌≡◌, sym, ◌∙◌, ap}
use mathlib.Core.List.{List, ◌++◌}
use Prim.Native.Nat.{ℕ, ◌<◌, ◌-◌, ◌+◌, ◌/◌, ◌%◌}
use native.Mathlib.Numerals.{add-one}
use native.Mathlib.Omega.{arith}
use lib.ListN.{length, drop, set, length-set}
use Rattle.model.specs.Page.{hex_digit, hexadecimal}
use Rattle.sheet.proofs.Written.{column}
use Rattle.page.proofs.put_hexadecimal.Goals as goal

-- digit k written
digit-written : (out : List ℕ) (i k v b : ℕ) → b ≡ hex_digit (v % 16) → i ≡ k + 1 → k < length out → hexadecimal k (v / 16) ++ drop k (set out k b) ≡ hexadecimal i v ++ drop i out
unfolding hexadecimal
digit-written out i k v b d e h =
    ap (λ (a : ℕ). hexadecimal k (v / 16) ++ drop k (set out k a)) d
    ∙ column out (hexadecimal k (v / 16)) i k (hex_digit (v % 16)) e h
    ∙ ap (λ (j : ℕ). hexadecimal j v ++ drop i out) (sym (e ∙ add-one k))

pub loop-i-preserved : goal.loop-i-preserved
loop-i-preserved c =
    let l = c.loop-i in
    let e : l.i ≡ (l.i - 1) + 1 = omega arith in
    (length-set l.out (l.i - 1) _ ∙ l.invariant.0, digit-written l.out l.i (l.i - 1) l.rest c.hex_digit.result c.hex_digit.ensures e (omega arith) ∙ l.invariant.1)

pub returns : goal.returns
unfolding hexadecimal
returns c =
    let l = c.loop-i in
    let z : l.i ≡ 0 = omega arith in
    sym (ap (λ (k : ℕ). hexadecimal k l.rest ++ drop k l.out) z) ∙ l.invariant.1
