use mathlib.Core.Path.{◌≡◌, sym, ap, ap₂, ◌∙◌}
use mathlib.Core.List.{List, [], ◌∷◌, ◌++◌, map}
use Prim.Native.Nat.{ℕ, ◌+◌}
use native.Mathlib.Omega.{arith}
use lib.ListN.{length}
use borrow.Rule.Slice.PartMut.{put_mid, mid_len, same_len_mid}
use Rattle.model.specs.Entries.{strip, listed}
use Rattle.model.specs.Floats.{bits}
use Rattle.model.specs.Sheet.{line}
use Rattle.sheet.specs.Text.{entries_text, sheet_on}
use Rattle.sheet.proofs.Written.{two-pieces}
use Rattle.sheet.proofs.Text.{first-line, sheet-text, length-sheet}
use Rattle.sheet.proofs.put_sheet.Goals as goal

pub slice_bounds-put_line-end : goal.slice_bounds-put_line-end
slice_bounds-put_line-end c =
    let long : length c.args.out.now ≡ 127 + length (entries_text c.args.h.size.n (map strip (listed c.args.h.size c.args.h.count c.args.store.now))) = c.requires.out_len ∙ length-sheet (sheet_on c.args.h c.args.store.now) in
    omega (arith, long)

pub slice_bounds-put_entries-count : goal.slice_bounds-put_entries-count
slice_bounds-put_entries-count c =
    let long : length c.args.out.now ≡ 127 + length (entries_text c.args.h.size.n (map strip (listed c.args.h.size c.args.h.count c.args.store.now))) = c.requires.out_len ∙ length-sheet (sheet_on c.args.h c.args.store.now) in
    let after : length (put_mid 0 127 c.args.out.now c.put_line.new.out) ≡ length c.args.out.now = same_len_mid 0 127 c.args.out.now c.put_line.new.out c.put_line.auto.out in
    omega (arith, after, long)

pub slice_bounds-put_entries-start : goal.slice_bounds-put_entries-start
slice_bounds-put_entries-start c =
    let long : length c.args.out.now ≡ 127 + length (entries_text c.args.h.size.n (map strip (listed c.args.h.size c.args.h.count c.args.store.now))) = c.requires.out_len ∙ length-sheet (sheet_on c.args.h c.args.store.now) in
    let after : length (put_mid 0 127 c.args.out.now c.put_line.new.out) ≡ length c.args.out.now = same_len_mid 0 127 c.args.out.now c.put_line.new.out c.put_line.auto.out in
    omega (arith, after, long)

pub put_entries-requires : goal.put_entries-requires
put_entries-requires c =
    let long : length c.args.out.now ≡ 127 + length (entries_text c.args.h.size.n (map strip (listed c.args.h.size c.args.h.count c.args.store.now))) = c.requires.out_len ∙ length-sheet (sheet_on c.args.h c.args.store.now) in
    let after : length (put_mid 0 127 c.args.out.now c.put_line.new.out) ≡ length c.args.out.now = same_len_mid 0 127 c.args.out.now c.put_line.new.out c.put_line.auto.out in
    record {
      sound = c.requires.sound;
      out_len = mid_len 127 (length (put_mid 0 127 c.args.out.now c.put_line.new.out)) (put_mid 0 127 c.args.out.now c.put_line.new.out) (omega arith) ∙ (omega (arith, after, long));
    }

pub returns : goal.returns
returns c =
    let long : length c.args.out.now ≡ 127 + length (entries_text c.args.h.size.n (map strip (listed c.args.h.size c.args.h.count c.args.store.now))) = c.requires.out_len ∙ length-sheet (sheet_on c.args.h c.args.store.now) in
    let named : ◌≡◌ {A = List ℕ} (c.args.h.size.n ∷ c.args.h.size.k ∷ c.args.h.size.capacity ∷ c.args.h.count ∷ c.bits_of-threshold.result ∷ c.bits_of-cutoff.result ∷ []) (c.args.h.size.n ∷ c.args.h.size.k ∷ c.args.h.size.capacity ∷ c.args.h.count ∷ bits c.args.h.threshold ∷ bits c.args.h.cutoff ∷ []) = rw (c.bits_of-threshold.ensures, c.bits_of-cutoff.ensures) in
    two-pieces c.args.out.now c.put_line.new.out c.put_entries.new.out 127 (omega (arith, long)) c.put_line.auto.out c.put_entries.auto.out
    ∙ ap₂ (λ (u v : List ℕ). u ++ v) (c.put_line.ensures ∙ ap line (named ∙ sym (first-line c.args.h c.args.store.now))) c.put_entries.ensures
    ∙ sym (sheet-text (sheet_on c.args.h c.args.store.now))
