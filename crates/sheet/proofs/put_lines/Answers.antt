use mathlib.Core.Path.{◌≡◌, sym, ap, ◌∙◌}
use mathlib.Core.List.{List, [], ◌++◌, append-nil, map}
use Prim.Native.Nat.{ℕ, ◌+◌, ◌-◌, ◌*◌, ◌<◌, ◌≤◌}
use native.Mathlib.Omega.{arith}
use lib.ListN.{length, take, drop, get_or, length-drop}
use lib.Seq.{take_all, length-take-le}
use borrow.Rule.Slice.PartMut.{mid_len}
use Rattle.model.specs.Lists.{groups, joined}
use Rattle.model.specs.Sheet.{line}
use Rattle.model.proofs.Lists.{length-groups, group_at}
use Rattle.model.proofs.Sheet.{length-line}
use Rattle.sheet.proofs.Written.{wrote, wrote-length, next-piece, joined-next, joined_end}
use Rattle.sheet.proofs.put_lines.Goals as goal

pub put_line-requires : goal.put_line-requires
put_line-requires c =
    let l = c.loop-i in
    let w = c.args.words.now in
    let three : length c.stretch.result.now ≡ 3 = ap length c.stretch.ensures ∙ length-take-le 3 (drop (l.i * 3) w) (omega (arith, length-drop (l.i * 3) w, c.requires.1)) in
    mid_len (64 * l.i) (64 * l.i + 64) l.out (omega arith) ∙ (omega arith) ∙ ap (λ (k : ℕ). k * 21 + 1) (sym three)

pub loop-i-preserved : goal.loop-i-preserved
loop-i-preserved c =
    let l = c.loop-i in
    let v = c.args.words.now in
    let three : length c.stretch.result.now ≡ 3 = ap length c.stretch.ensures ∙ length-take-le 3 (drop (l.i * 3) v) (omega (arith, length-drop (l.i * 3) v, c.requires.1)) in
    let ls = groups 3 c.args.m v in
    let x = c.put_line.new.out in
    let at = 64 * l.i in
    let end = at + 64 in
    let w : end ≤ length l.out = omega arith in
    let done : x ≡ line (get_or ls l.i []) = c.put_line.ensures ∙ ap line (c.stretch.ensures ∙ sym (group_at 3 c.args.m l.i v c.loop-i-test.true)) in
    let long : length x ≡ end - at = ap length c.put_line.ensures ∙ length-line c.stretch.result.now ∙ ap (λ (k : ℕ). k * 21 + 1) three ∙ (omega arith) in
    let lies : l.i < length ls = omega (arith, length-groups 3 c.args.m v) in
    let next : end ≡ 64 * (l.i + 1) = omega arith in (
      wrote-length at end l.out x w long ∙ l.invariant.0,
      next-piece (take at l.out) (take (64 * (l.i + 1)) _) x (joined (map line (drop l.i ls))) (joined (map line (drop (l.i + 1) ls)))
          (rw (← next) (wrote at end l.out x (omega arith) w long))
          (joined-next line ls l.i [] lies ∙ ap (λ (y : List ℕ). y ++ joined (map line (drop (l.i + 1) ls))) (sym done))
          l.invariant.1,
    )

pub returns : goal.returns
returns c =
    let l = c.loop-i in
    let ls = groups 3 c.args.m c.args.words.now in
    let whole : length l.out ≤ 64 * l.i = omega arith in
    sym (append-nil l.out)
    ∙ sym (ap (λ (t : List ℕ). t ++ []) (take_all (64 * l.i) l.out whole))
    ∙ sym (ap (λ (r : List ℕ). take (64 * l.i) l.out ++ r) (joined_end line ls l.i (omega (arith, length-groups 3 c.args.m c.args.words.now))))
    ∙ l.invariant.1
