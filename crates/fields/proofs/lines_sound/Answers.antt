use mathlib.Core.Path.{◌≡◌, sym, ap, ◌∙◌}
use mathlib.Core.List.{List, []}
use Prim.Native.Nat.{ℕ, ◌+◌, ◌*◌, ◌-◌, ◌≤◌}
use native.Mathlib.Omega.{arith}
use lib.ListN.{length, take, drop, drop_of_length-le}
use Rattle.model.specs.Sheet.{line_fields, lines_fields}
use Rattle.fields.specs.Read.{is_some}
use Rattle.fields.proofs.Tested.{lines_none, lines-uneven, line-passed, line-failed}
use Rattle.fields.proofs.lines_sound.Goals as goal

pub returns-then-text-ne0 : goal.returns-then-text-ne0
returns-then-text-ne0 c = sym (lines-uneven 3 c.args.text.now (λ z. c.if-text-ne0.true (omega (arith, z))))

pub returns-then-not-line_sound : goal.returns-then-not-line_sound
returns-then-not-line_sound c =
    let at = 64 * c.loop-i.i in
    let t = c.args.text.now in
    let k : at + 64 - at ≡ 64 = omega arith in
    let within : at + 64 ≤ length t = omega arith in
    line-failed 3 at t within (sym (c.line_sound.ensures ∙ ap (λ (n : ℕ). is_some (line_fields 3 (take n (drop at t)))) k) ∙ c.if-not-line_sound.true) ∙ c.loop-i.invariant

pub loop-i-preserved : goal.loop-i-preserved
loop-i-preserved c =
    let at = 64 * c.loop-i.i in
    let t = c.args.text.now in
    let k : at + 64 - at ≡ 64 = omega arith in
    let within : at + 64 ≤ length t = omega arith in
    let next : 64 * (c.loop-i.i + 1) ≡ at + 64 = omega arith in
    ap (λ (n : ℕ). is_some (lines_fields 3 (drop n t))) next
    ∙ line-passed 3 at t within (sym (c.line_sound.ensures ∙ ap (λ (n : ℕ). is_some (line_fields 3 (take n (drop at t)))) k) ∙ c.if-not-line_sound.false) ∙ c.loop-i.invariant

pub returns : goal.returns
returns c =
    let t = c.args.text.now in
    let e : drop (64 * c.loop-i.i) t ≡ [] = drop_of_length-le t {i = 64 * c.loop-i.i} (omega arith) in
    sym (ap (λ (t : List ℕ). is_some (lines_fields 3 t)) e ∙ lines_none 3) ∙ c.loop-i.invariant
