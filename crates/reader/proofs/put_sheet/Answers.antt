use mathlib.Core.Path.{◌≡◌, ap, ap₂, ◌∙◌}
use mathlib.Core.List.{List, ◌++◌}
use Prim.Native.Nat.{ℕ, ◌*◌, ◌-◌, ◌≤◌}
use native.Mathlib.Omega.{arith}
use lib.ListN.{length, replicate}
use borrow.Rule.Slice.PartMut.{put_mid, mid_len}
use Rattle.model.specs.Entries.{entry_len}
use Rattle.model.specs.Sheet.{line_fields, lines_fields, read_entries}
use Rattle.model.specs.Numbers.{entries_sound}
use Rattle.model.specs.declared.Header.{Header}
use Rattle.fields.specs.Read.{is_some}
use Rattle.reader.specs.Reading.{got, lines_on, entries_on, header_on, header_in}
use Rattle.reader.proofs.Entry.{words_read}
use Rattle.reader.proofs.Filled.{Filled, begun, more, whole}
use Rattle.reader.proofs.Sheets.{read-long}
use Rattle.reader.proofs.Answers.{Tested, tested, tested-within, slots-within, store_is}
use Rattle.reader.proofs.put_sheet.Goals as goal

-- ---- from each piece back

-- ---- what the tests left, and what line 1 says

pub first_line-requires : goal.first_line-requires
first_line-requires c =
    let passed : Tested c.args.text.now (length c.args.store.now) = tested c.args.text.now (length c.args.store.now) c.requires in
    read-long c.args.text.now passed.read

pub header_on-h-requires : goal.header_on-h-requires
header_on-h-requires c =
    let passed : Tested c.args.text.now (length c.args.store.now) = tested c.args.text.now (length c.args.store.now) c.requires in
    ap (λ (b : List ℕ). is_some (line_fields 6 b)) c.first_line.ensures ∙ passed.read.one

pub entry_len-requires : goal.entry_len-requires
entry_len-requires c =
    let passed : Tested c.args.text.now (length c.args.store.now) = tested c.args.text.now (length c.args.store.now) c.requires in
    let header_read : c.header_on-h.result ≡ header_in c.args.text.now = c.header_on-h.ensures ∙ ap (λ (b : List ℕ). header_on (got (line_fields 6 b))) c.first_line.ensures in
    rw header_read (tested-within passed)

pub overflow_mul-past : goal.overflow_mul-past
overflow_mul-past c =
    let passed : Tested c.args.text.now (length c.args.store.now) = tested c.args.text.now (length c.args.store.now) c.requires in
    let header_read : c.header_on-h.result ≡ header_in c.args.text.now = c.header_on-h.ensures ∙ ap (λ (b : List ℕ). header_on (got (line_fields 6 b))) c.first_line.ensures in
    let past_is : let t = c.args.text.now in (c.header_on-h.result.count * c.entry_len.result) ≡ (header_in t).count * entry_len (header_in t).size = let e = header_read in
    ap₂ (λ (h : Header) (k : ℕ). h.count * k) e (c.entry_len.ensures ∙ ap (λ (h : Header). entry_len h.size) e) in
    let past-within : (c.header_on-h.result.count * c.entry_len.result) ≤ length c.args.store.now = omega (arith, past_is, slots-within passed) in
    omega (arith, past-within)

pub slice_bounds-put_entries-end : goal.slice_bounds-put_entries-end
slice_bounds-put_entries-end c =
    let passed : Tested c.args.text.now (length c.args.store.now) = tested c.args.text.now (length c.args.store.now) c.requires in
    let header_read : c.header_on-h.result ≡ header_in c.args.text.now = c.header_on-h.ensures ∙ ap (λ (b : List ℕ). header_on (got (line_fields 6 b))) c.first_line.ensures in
    let past_is : let t = c.args.text.now in (c.header_on-h.result.count * c.entry_len.result) ≡ (header_in t).count * entry_len (header_in t).size = let e = header_read in
    ap₂ (λ (h : Header) (k : ℕ). h.count * k) e (c.entry_len.ensures ∙ ap (λ (h : Header). entry_len h.size) e) in
    let past-within : (c.header_on-h.result.count * c.entry_len.result) ≤ length c.args.store.now = omega (arith, past_is, slots-within passed) in
    past-within

pub text_from-requires : goal.text_from-requires
text_from-requires c =
    let passed : Tested c.args.text.now (length c.args.store.now) = tested c.args.text.now (length c.args.store.now) c.requires in
    read-long c.args.text.now passed.read

pub put_entries-requires : goal.put_entries-requires
put_entries-requires c =
    let passed : Tested c.args.text.now (length c.args.store.now) = tested c.args.text.now (length c.args.store.now) c.requires in
    let header_read : c.header_on-h.result ≡ header_in c.args.text.now = c.header_on-h.ensures ∙ ap (λ (b : List ℕ). header_on (got (line_fields 6 b))) c.first_line.ensures in
    let past_is : let t = c.args.text.now in (c.header_on-h.result.count * c.entry_len.result) ≡ (header_in t).count * entry_len (header_in t).size = let e = header_read in
    ap₂ (λ (h : Header) (k : ℕ). h.count * k) e (c.entry_len.ensures ∙ ap (λ (h : Header). entry_len h.size) e) in
    let past-within : (c.header_on-h.result.count * c.entry_len.result) ≤ length c.args.store.now = omega (arith, past_is, slots-within passed) in
    let t = passed in record {
      within = (rw header_read (tested-within t), mid_len 0 (c.header_on-h.result.count * c.entry_len.result) c.args.store.now past-within ∙ (omega (arith, ap (λ (m : ℕ). c.header_on-h.result.count * m) c.entry_len.ensures)));
      lined = (
        ap (λ (b : List ℕ). is_some (lines_fields 3 b)) c.text_from.ensures ∙ t.read.rest,
        ap₂ (λ (h : Header) (b : List ℕ). is_some (read_entries h.size h.count (lines_on b))) header_read c.text_from.ensures ∙ t.read.all,
        ap₂ (λ (h : Header) (b : List ℕ). entries_sound h.size (entries_on h.size h.count (lines_on b))) header_read c.text_from.ensures ∙ t.entries,
      );
    }

pub returns : goal.returns
returns c =
    let passed : Tested c.args.text.now (length c.args.store.now) = tested c.args.text.now (length c.args.store.now) c.requires in
    let header_read : c.header_on-h.result ≡ header_in c.args.text.now = c.header_on-h.ensures ∙ ap (λ (b : List ℕ). header_on (got (line_fields 6 b))) c.first_line.ensures in
    let past_is : let t = c.args.text.now in (c.header_on-h.result.count * c.entry_len.result) ≡ (header_in t).count * entry_len (header_in t).size = let e = header_read in
    ap₂ (λ (h : Header) (k : ℕ). h.count * k) e (c.entry_len.ensures ∙ ap (λ (h : Header). entry_len h.size) e) in
    let past-within : (c.header_on-h.result.count * c.entry_len.result) ≤ length c.args.store.now = omega (arith, past_is, slots-within passed) in
    let entries-in : Filled (length c.args.store.now) (c.header_on-h.result.count * c.entry_len.result) c.put_entries.new.slots (put_mid 0 ((c.header_on-h.result.count * c.entry_len.result) - 0) c.args.store.now c.put_entries.new.slots) = more (begun c.args.store.now) (c.header_on-h.result.count * c.entry_len.result) c.put_entries.new.slots (omega arith) past-within c.put_entries.auto.slots in
    let zeros-in : Filled (length c.args.store.now) (length (put_mid 0 ((c.header_on-h.result.count * c.entry_len.result) - 0) c.args.store.now c.put_entries.new.slots)) (c.put_entries.new.slots ++ c.clear.new.part) (put_mid (c.header_on-h.result.count * c.entry_len.result) (length (put_mid 0 ((c.header_on-h.result.count * c.entry_len.result) - 0) c.args.store.now c.put_entries.new.slots) - (c.header_on-h.result.count * c.entry_len.result)) (put_mid 0 ((c.header_on-h.result.count * c.entry_len.result) - 0) c.args.store.now c.put_entries.new.slots) c.clear.new.part) = let l = entries-in.long in
    more entries-in (length (put_mid 0 ((c.header_on-h.result.count * c.entry_len.result) - 0) c.args.store.now c.put_entries.new.slots)) c.clear.new.part (omega (arith, past-within)) (omega arith) c.clear.auto.part in
    let l = entries-in.long in
    let cleared = mid_len (c.header_on-h.result.count * c.entry_len.result) (length (put_mid 0 ((c.header_on-h.result.count * c.entry_len.result) - 0) c.args.store.now c.put_entries.new.slots)) (put_mid 0 ((c.header_on-h.result.count * c.entry_len.result) - 0) c.args.store.now c.put_entries.new.slots) (omega arith) ∙ ap (λ (m : ℕ). m - (c.header_on-h.result.count * c.entry_len.result)) l in
    whole zeros-in (omega arith)
    ∙ ap₂ (λ (x y : List ℕ). x ++ y)
    (c.put_entries.ensures ∙ ap₂ (λ (h : Header) (b : List ℕ). words_read (entries_on h.size h.count (lines_on b))) header_read c.text_from.ensures)
    (c.clear.ensures ∙ ap (λ (m : ℕ). replicate m 0) cleared)
    ∙ store_is passed (c.header_on-h.result.count * c.entry_len.result) past_is
