-- The branch's search is that of the words that it would have.
use Rattle.std.specs.Prelude.{Some, None}
use mathlib.Core.Path.{◌≡◌, ap, ap₂, ◌∙◌}
use mathlib.Core.List.{List, []}
use Prim.Native.Nat.{ℕ, ◌+◌, ◌*◌, ◌≤◌, ◌<◌}
use native.Mathlib.Omega.{arith}
use lib.ListN.{length, get_or}
use lib.Ieee.{Float}
use Rattle.model.specs.Floats.{float, bits, plus}
use Rattle.model.specs.Entries.{entry_len, entry_of, stretch, words_of, listed}
use Rattle.model.specs.Keys.{usual_salts}
use Rattle.model.specs.Changes.{changed_keyed}
use Rattle.model.specs.Store.{reweighed}
use Rattle.model.specs.Sound.{Packed}
use Rattle.model.specs.declared.Size.{Size}
use Rattle.model.proofs.Groups.{stride-le}
use Rattle.model.proofs.Packed.{within}
use Rattle.seeking.specs.Noted.{seen_at}
use Rattle.seeking.specs.Walk.{Searched}
use Rattle.seeking.specs.declared.Search.{Search}
use Rattle.seeking.proofs.Noting.{still_noted}
use Rattle.merging.specs.Fates.{count_by}
use Rattle.merging.specs.Progress.{mutation_of, branch_in}
use Rattle.merging.specs.declared.Branch.{Branch}
use Rattle.merging.specs.declared.Fate.TheVariants.{Merged}
use Rattle.merging.proofs.Merge.{place-below, settles, merged}
use Rattle.merging.proofs.Changed.{made, made_holds, search_is, key-is, weight-keys}
use Rattle.merging.proofs.merge_one_changed.Goals as goal

-- the found place lies below the count, so its entry lies in the store
found-inside : (s : Size) (count : ℕ) (w : List ℕ) → Packed s count w → (b : Branch) → b.parent < count → (threshold : Float) (r : Search)
    → Searched s threshold (changed_keyed usual_salts s.n (mutation_of b) (entry_of s (stretch s w b.parent))) (listed s count w) r
    → (i : ℕ) → r.found ≡ Some i → i * entry_len s + entry_len s ≤ length w
found-inside s count w g b h threshold r f i e =
    omega (arith, stride-le (entry_len s) i count (place-below s count threshold threshold (branch_in s w b) w r (search_is s count w g b h threshold (listed s count w) r f) i e), within s count w g)

pub seek_arm-search-requires-clause-size_in_bounds : goal.seek_arm-search-requires-clause-size_in_bounds
seek_arm-search-requires-clause-size_in_bounds c =
    let a = c.args in
    let size = a.limits.size in
    let p = c.requires.packed in
    let w = a.store.now in (
      omega (arith, stride-le (entry_len size) a.branch.parent a.count p.2, within size a.count w p.0),
      p.3,
      c.requires.changes,
      key-is size a.count w p.0 a.branch p.2 a.keys.now a.firsts.now p.1 c.requires.changes,
    )

pub returns-in_default : goal.returns-in_default
returns-in_default c =
    let a = c.args in
    let size = a.limits.size in
    let p = c.requires.packed in
    let w = a.store.now in
    let r = c.seek_arm-search in
    let f = search_is size a.count w p.0 a.branch p.2 a.limits.threshold (listed size a.count w) r.result r.ensures in
    let e = c.store_or_drop-fate in
    (settles size a.count a.limits.threshold a.limits.cutoff (branch_in size w a.branch) w r.result f None c.in_default.is e.result _ e.ensures.0, e.ensures.1)

pub overflow_mul-weight : goal.overflow_mul-weight
overflow_mul-weight c =
    let a = c.args in
    let p = c.requires.packed in
    let r = c.seek_arm-search in
    rw c.entry_len.ensures (omega (arith, found-inside a.limits.size a.count a.store.now p.0 a.branch p.2 a.limits.threshold r.result r.ensures c.in-Some.place c.in-Some.is))

pub offset_bounds-store-place : goal.offset_bounds-store-place
offset_bounds-store-place c =
    let a = c.args in
    let p = c.requires.packed in
    let r = c.seek_arm-search in
    rw c.entry_len.ensures (omega (arith, found-inside a.limits.size a.count a.store.now p.0 a.branch p.2 a.limits.threshold r.result r.ensures c.in-Some.place c.in-Some.is))

pub bounds-store-place : goal.bounds-store-place
bounds-store-place c =
    let a = c.args in
    let p = c.requires.packed in
    let r = c.seek_arm-search in
    rw c.entry_len.ensures (omega (arith, found-inside a.limits.size a.count a.store.now p.0 a.branch p.2 a.limits.threshold r.result r.ensures c.in-Some.place c.in-Some.is))

pub returns : goal.returns
unfolding count_by words_of reweighed
returns c =
    let a = c.args in
    let size = a.limits.size in
    let p = c.requires.packed in
    let g = p.0 in
    let w = a.store.now in
    let r = c.seek_arm-search in
    let f = search_is size a.count w g a.branch p.2 a.limits.threshold (listed size a.count w) r.result r.ensures in
    let q = c.in-Some in
    let len = c.entry_len.ensures in
    let weight = c.float_of.ensures ∙ ap (λ (n : ℕ). float (get_or w (q.place * n) 0)) len in
    let sum = c.bits_of.ensures ∙ ap₂ (λ (x y : Float). bits (plus x y)) weight c.float_of-2.ensures in
    let below = place-below size a.count a.limits.threshold a.limits.cutoff (branch_in size w a.branch) w r.result f q.place q.is in
    let gains = rw (made_holds size a.count w g a.branch p.2) at (merged size a.count a.limits.cutoff (made size a.count w g a.branch p.2) w g q.place below _ sum) in
    (rw len (settles size a.count a.limits.threshold a.limits.cutoff (branch_in size w a.branch) w r.result f (Some q.place) q.is Merged _ gains), rw len (still_noted (seen_at size [] w) (seen_at size [] _) p.1 (weight-keys size a.count w q.place _)))
