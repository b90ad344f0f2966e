use mathlib.Core.Path.{◌≡◌, refl, sym, ap, ◌∙◌}
use mathlib.Core.List.{List, [], ◌∷◌, ◌++◌, append_assoc, map}
use Prim.Native.Nat.{ℕ, suc, ◌+◌, ◌-◌, ◌*◌, ◌≤◌}
use native.Mathlib.Omega.{arith}
use lib.ListN.{length, take, drop, get_or, drop_of_length-le}
use lib.Seq.{set_split}
use borrow.Rule.Slice.PartMut.{mid_of, mid_len}
use Rattle.model.specs.Lists.{joined}
use Rattle.model.specs.Sheet.{columns, line_end, justified, field, line}
use Rattle.model.proofs.Sheet.{length-field}
use Rattle.sheet.proofs.Written.{wrote, wrote-length, next-piece, joined-next, joined_end}
use Rattle.sheet.proofs.put_line.Goals as goal

pub loop-j-init : goal.loop-j-init
unfolding line
loop-j-init c = (refl, refl)

pub put_number-requires : goal.put_number-requires
put_number-requires c =
    let l = c.loop-j in
    omega (arith, mid_len (21 * l.j) (21 * l.j + 21) l.out (omega arith))

pub loop-j-preserved : goal.loop-j-preserved
unfolding field
loop-j-preserved c =
    let l = c.loop-j in
    let fs = c.args.fields.now in
    let x = c.put_number.new.out in
    let at = 21 * l.j in
    let end = at + 21 in
    let w : end ≤ length l.out = omega arith in
    let wide : length (mid_of at (end - at) l.out) ≡ columns = mid_len at end l.out w ∙ (omega arith) in
    let done : x ≡ field (get_or fs l.j 0) = c.put_number.ensures ∙ ap (λ (k : ℕ). justified k (get_or fs l.j 0)) wide in
    let long : length x ≡ end - at = ap length done ∙ length-field (get_or fs l.j 0) ∙ (omega arith) in
    let next : end ≡ 21 * (l.j + 1) = omega arith in (
      wrote-length at end l.out x w long ∙ l.invariant.0,
      next-piece (take at l.out) (take (21 * (l.j + 1)) _) x (joined (map field (drop l.j fs)) ++ line_end ∷ []) (joined (map field (drop (l.j + 1) fs)) ++ line_end ∷ [])
          (rw (← next) (wrote at end l.out x (omega arith) w long))
          (ap (λ (r : List ℕ). r ++ line_end ∷ []) (joined-next field fs l.j 0 (omega arith) ∙ ap (λ (y : List ℕ). y ++ joined (map field (drop (l.j + 1) fs))) (sym done)) ∙ append_assoc x (joined (map field (drop (l.j + 1) fs))) (line_end ∷ []))
          l.invariant.1,
    )

pub returns : goal.returns
returns c =
    let l = c.loop-j in
    let fs = c.args.fields.now in
    let at = 21 * length fs in
    let e : l.j ≡ length fs = omega arith in
    set_split l.out at 10 (omega arith)
    ∙ ap (λ (r : List ℕ). take at l.out ++ 10 ∷ r) (drop_of_length-le l.out {i = suc at} (omega arith))
    ∙ sym (ap (λ (r : List ℕ). take at l.out ++ (r ++ line_end ∷ [])) (joined_end field fs l.j (omega arith)))
    ∙ ap (λ (k : ℕ). take (21 * k) l.out ++ (joined (map field (drop l.j fs)) ++ line_end ∷ [])) (sym e)
    ∙ l.invariant.1
