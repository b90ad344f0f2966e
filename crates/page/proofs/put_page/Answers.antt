use mathlib.Core.Path.{◌≡◌, refl, sym, ap, ◌∙◌}
use mathlib.Core.List.{List, [], ◌++◌, map}
use Prim.Native.Nat.{ℕ, ◌+◌, ◌*◌, ◌≤◌}
use native.Mathlib.Nat.{add-mul}
use native.Mathlib.Omega.{arith}
use lib.ListN.{length, take, drop, get_or}
use lib.Seq.{take_all}
use Rattle.model.specs.Entries.{Entry, strip, entry_of, stretch, listed, entry_len}
use Rattle.model.specs.Page.{page_line_len, page_line, page_text}
use Rattle.model.specs.declared.Size.{Size}
use Rattle.model.proofs.Groups.{stride-le}
use Rattle.model.proofs.Entries.{length-stretch, length-stripped, stripped-at}
use Rattle.model.proofs.Sound.{sound-weight}
use Rattle.model.proofs.PageText.{page-none, page-next}
use Rattle.sheet.proofs.Text.{ready}
use Rattle.page.proofs.Pieces.{nothing_yet, as-well, part-long, with_part, whole}
use Rattle.page.proofs.put_page.Goals as goal

abbrev entries : Size → ℕ → List ℕ → List Entry
entries s count w = map strip (listed s count w)

pub entry_len-len-requires : goal.entry_len-len-requires
entry_len-len-requires c = (ready _ _ _ c.requires.0).0

pub loop-i-init : goal.loop-i-init
loop-i-init c = as-well refl page-none (nothing_yet _ c.args.out.now refl)

pub stretch-e-requires : goal.stretch-e-requires
stretch-e-requires c =
    rw c.entry_len-len.ensures
    (omega (arith, stride-le (entry_len c.args.size) c.loop-i.i c.args.count (omega arith), (ready _ _ _ c.requires.0).2))

pub overflow_mul-at : goal.overflow_mul-at
overflow_mul-at c =
    -- within the loop's body the line ends in the slice
    let within : c.loop-i.i * page_line_len + page_line_len ≤ length c.args.out.now = omega (arith, stride-le page_line_len c.loop-i.i c.args.count c.loop-i-test.true, c.requires.1) in
    omega (arith, within)

pub overflow_add-at : goal.overflow_add-at
overflow_add-at c =
    -- within the loop's body the line ends in the slice
    let within : c.loop-i.i * page_line_len + page_line_len ≤ length c.args.out.now = omega (arith, stride-le page_line_len c.loop-i.i c.args.count c.loop-i-test.true, c.requires.1) in
    omega (arith, within)

pub slice_bounds-put_line-end : goal.slice_bounds-put_line-end
slice_bounds-put_line-end c =
    -- within the loop's body the line ends in the slice
    let within : c.loop-i.i * page_line_len + page_line_len ≤ length c.args.out.now = omega (arith, stride-le page_line_len c.loop-i.i c.args.count c.loop-i-test.true, c.requires.1) in
    omega (arith, within, c.loop-i.invariant.long)

pub put_line-requires : goal.put_line-requires
put_line-requires c =
    -- within the loop's body the line ends in the slice
    let within : c.loop-i.i * page_line_len + page_line_len ≤ length c.args.out.now = omega (arith, stride-le page_line_len c.loop-i.i c.args.count c.loop-i-test.true, c.requires.1) in
    -- the entry at the loop's place
    let the-stretch : c.stretch-e.result.now ≡ stretch c.args.size c.args.store.now c.loop-i.i = c.stretch-e.ensures ∙ ap (λ (l : ℕ). take l (drop (c.loop-i.i * l) c.args.store.now)) c.entry_len-len.ensures in
    let l = c.loop-i in
    let below = c.loop-i-test.true in
    let long = length-stretch c.args.size c.args.store.now l.i c.args.count (ready _ _ _ c.requires.0).2 below in (
      part-long l.invariant (l.i * page_line_len + page_line_len) within ∙ (omega arith),
      omega (arith, ap length the-stretch, long),
      rw the-stretch (sound-weight c.args.size c.args.count c.args.store.now c.requires.0 l.i below),
    )

pub loop-i-preserved : goal.loop-i-preserved
loop-i-preserved c =
    -- within the loop's body the line ends in the slice
    let within : c.loop-i.i * page_line_len + page_line_len ≤ length c.args.out.now = omega (arith, stride-le page_line_len c.loop-i.i c.args.count c.loop-i-test.true, c.requires.1) in
    -- the entry at the loop's place
    let the-stretch : c.stretch-e.result.now ≡ stretch c.args.size c.args.store.now c.loop-i.i = c.stretch-e.ensures ∙ ap (λ (l : ℕ). take l (drop (c.loop-i.i * l) c.args.store.now)) c.entry_len-len.ensures in
    let l = c.loop-i in
    let below = c.loop-i-test.true in
    let es = entries c.args.size c.args.count c.args.store.now in
    let d = strip (entry_of c.args.size []) in
    let x = c.put_line.new.out in
    let line : page_line (l.i + 1) (get_or es l.i d) ≡ x =
    ap (page_line (l.i + 1)) (stripped-at c.args.size c.args.count l.i c.args.store.now d below ∙ sym (ap (λ (w : List ℕ). strip (entry_of c.args.size w)) the-stretch))
    ∙ sym c.put_line.ensures in as-well (add-mul l.i 1 page_line_len)
    (page-next es l.i d (omega (arith, length-stripped c.args.size c.args.count c.args.store.now)) ∙ ap (λ (y : List ℕ). page_text (take l.i es) ++ y) line)
    (with_part l.invariant (l.i * page_line_len + page_line_len) x (omega arith) within c.put_line.auto.out)

pub returns : goal.returns
returns c =
    let l = c.loop-i in
    let es = entries c.args.size c.args.count c.args.store.now in
    let e : l.i ≡ c.args.count = omega arith in
    whole l.invariant (omega (arith, c.requires.1, ap (λ (k : ℕ). k * page_line_len) e)) ∙ ap page_text (take_all l.i es (omega (arith, length-stripped c.args.size c.args.count c.args.store.now)))
