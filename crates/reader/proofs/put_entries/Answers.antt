use mathlib.Core.Path.{◌≡◌, refl, sym, ap, ◌∙◌}
use mathlib.Core.Bool.{true}
use mathlib.Core.List.{List, [], ◌∷◌, ◌++◌, append-nil}
use Prim.Native.Nat.{ℕ, ◌+◌, ◌*◌, ◌-◌, ◌≤◌}
use native.Mathlib.Nat.{zero-mul, suc-mul}
use native.Mathlib.Numerals.{add-one}
use native.Mathlib.Omega.{arith}
use lib.ListN.{length, take}
use lib.Seq.{take_all}
use borrow.Rule.Slice.PartMut.{put_mid, mid_len}
use Rattle.model.specs.Lists.{every, joined}
use Rattle.model.specs.Entries.{Entry, words_of}
use Rattle.model.specs.Sheet.{lines_fields}
use Rattle.model.proofs.Groups.{stride-le}
use Rattle.checks.specs.Sound.{entry_sound}
use Rattle.checks.proofs.Words.{entries-one-pass}
use Rattle.fields.specs.Read.{is_some}
use Rattle.reader.specs.Reading.{lines_on, entry_bytes, entry_span, entry_on, entries_on, zero_keyed}
use Rattle.reader.proofs.Entry.{words_read, words-next, accepted-first, accepted-count}
use Rattle.reader.proofs.Filled.{Filled, more}
use Rattle.reader.proofs.Walked.{lines_from, entries_from, set_out, read_whole, entries-whole, bytes-within, walk-on, walk-reads, entry-there, walk-entries, walk-done}
use Rattle.reader.proofs.put_entries.Goals as goal

pub entry_len-len-requires : goal.entry_len-len-requires
entry_len-len-requires c = c.requires.within.0

pub loop-i-init : goal.loop-i-init
loop-i-init c =
    let z = c.args.size in
    let t = c.args.text.now in
    let e = entries-whole z c.args.count t in (
      set_out c.args.count t c.requires.lined.0,
      read_whole z c.args.count t ∙ c.requires.lined.1,
      ap (every (entry_sound z)) e ∙ sym (entries-one-pass z (entries_on z c.args.count (lines_on t))) ∙ c.requires.lined.2,
      refl,
      rw (zero-mul c.entry_len-len.result) (ap words_read e),
    )

pub text_from-here-requires : goal.text_from-here-requires
text_from-here-requires c = c.loop-i.invariant.0.within

pub slice_bounds-read_entry-end : goal.slice_bounds-read_entry-end
slice_bounds-read_entry-end c =
    -- its slot ends within the slots
    let within : c.loop-i.i * c.entry_len-len.result + c.entry_len-len.result ≤ length c.loop-i.slots = let l = c.loop-i in
    let k = c.entry_len-len in
    omega (arith, l.invariant.3, c.requires.within.1, stride-le k.result l.i c.args.count c.loop-i-test.true, ap (λ (m : ℕ). c.args.count * m) k.ensures) in
    within

pub read_entry-requires : goal.read_entry-requires
read_entry-requires c =
    let whole : entry_span c.args.size (lines_from c.args.text.now c.loop-i.at) ≤ length (lines_from c.args.text.now c.loop-i.at) = let l = c.loop-i in
    let a = c.args in
    entry-there a.size a.count a.text.now l.at l.i l.invariant.0 c.loop-i-test.true l.invariant.1 in
    let next : let l = c.loop-i in let a = c.args in entries_from a.size a.count a.text.now l.at l.i ≡ entry_on a.size (lines_from c.args.text.now c.loop-i.at) ∷ entries_from a.size a.count a.text.now (l.at + entry_bytes a.size (lines_from c.args.text.now c.loop-i.at)) (l.i + 1) = let l = c.loop-i in
    let a = c.args in
    walk-entries a.size a.count a.text.now l.at l.i l.invariant.0 c.loop-i-test.true l.invariant.1 in
    -- the entry is accepted, and so are those after it
    let accepted : let l = c.loop-i in let a = c.args in (entry_sound a.size (entry_on a.size (lines_from c.args.text.now c.loop-i.at)) ≡ true) × (every (entry_sound a.size) (entries_from a.size a.count a.text.now (l.at + entry_bytes a.size (lines_from c.args.text.now c.loop-i.at)) (l.i + 1)) ≡ true) = let s = c.args.size in accepted-first (entry_sound s) _ _ (sym (ap (every (entry_sound s)) next) ∙ c.loop-i.invariant.2) in
    -- its slot ends within the slots
    let within : c.loop-i.i * c.entry_len-len.result + c.entry_len-len.result ≤ length c.loop-i.slots = let l = c.loop-i in
    let k = c.entry_len-len in
    omega (arith, l.invariant.3, c.requires.within.1, stride-le k.result l.i c.args.count c.loop-i-test.true, ap (λ (m : ℕ). c.args.count * m) k.ensures) in
    let here-lines : lines_on c.text_from-here.result.now ≡ (lines_from c.args.text.now c.loop-i.at) = ap lines_on c.text_from-here.ensures in
    let here-lined : is_some (lines_fields 3 c.text_from-here.result.now) ≡ true = ap (λ (t : List ℕ). is_some (lines_fields 3 t)) c.text_from-here.ensures ∙ c.loop-i.invariant.0.lined in
    let l = c.loop-i in
    let k = c.entry_len-len in record {
      within = (c.requires.within.0, mid_len (l.i * c.entry_len-len.result) ((l.i * c.entry_len-len.result) + k.result) l.slots within ∙ (omega (arith, k.ensures)));
      lined = (here-lined, rw here-lines whole, rw here-lines (accepted-count c.args.size (lines_from c.args.text.now c.loop-i.at) accepted.0));
    }

pub entry_bytes-at-requires : goal.entry_bytes-at-requires
entry_bytes-at-requires c =
    let here-lined : is_some (lines_fields 3 c.text_from-here.result.now) ≡ true = ap (λ (t : List ℕ). is_some (lines_fields 3 t)) c.text_from-here.ensures ∙ c.loop-i.invariant.0.lined in
    here-lined

pub overflow_add-at : goal.overflow_add-at
overflow_add-at c =
    let whole : entry_span c.args.size (lines_from c.args.text.now c.loop-i.at) ≤ length (lines_from c.args.text.now c.loop-i.at) = let l = c.loop-i in
    let a = c.args in
    entry-there a.size a.count a.text.now l.at l.i l.invariant.0 c.loop-i-test.true l.invariant.1 in
    let here-lines : lines_on c.text_from-here.result.now ≡ (lines_from c.args.text.now c.loop-i.at) = ap lines_on c.text_from-here.ensures in
    -- its bytes
    let bytes : c.entry_bytes-at.result ≡ entry_bytes c.args.size (lines_from c.args.text.now c.loop-i.at) = c.entry_bytes-at.ensures ∙ ap (entry_bytes c.args.size) here-lines in
    let l = c.loop-i in
    let a = c.args in
    omega (arith, bytes, bytes-within a.size a.count a.text.now l.at l.i l.invariant.0 c.loop-i-test.true whole)

pub loop-i-preserved : goal.loop-i-preserved
loop-i-preserved c =
    let whole : entry_span c.args.size (lines_from c.args.text.now c.loop-i.at) ≤ length (lines_from c.args.text.now c.loop-i.at) = let l = c.loop-i in
    let a = c.args in
    entry-there a.size a.count a.text.now l.at l.i l.invariant.0 c.loop-i-test.true l.invariant.1 in
    let next : let l = c.loop-i in let a = c.args in entries_from a.size a.count a.text.now l.at l.i ≡ entry_on a.size (lines_from c.args.text.now c.loop-i.at) ∷ entries_from a.size a.count a.text.now (l.at + entry_bytes a.size (lines_from c.args.text.now c.loop-i.at)) (l.i + 1) = let l = c.loop-i in
    let a = c.args in
    walk-entries a.size a.count a.text.now l.at l.i l.invariant.0 c.loop-i-test.true l.invariant.1 in
    -- the entry is accepted, and so are those after it
    let accepted : let l = c.loop-i in let a = c.args in (entry_sound a.size (entry_on a.size (lines_from c.args.text.now c.loop-i.at)) ≡ true) × (every (entry_sound a.size) (entries_from a.size a.count a.text.now (l.at + entry_bytes a.size (lines_from c.args.text.now c.loop-i.at)) (l.i + 1)) ≡ true) = let s = c.args.size in accepted-first (entry_sound s) _ _ (sym (ap (every (entry_sound s)) next) ∙ c.loop-i.invariant.2) in
    let here-lines : lines_on c.text_from-here.result.now ≡ (lines_from c.args.text.now c.loop-i.at) = ap lines_on c.text_from-here.ensures in
    -- its bytes
    let bytes : c.entry_bytes-at.result ≡ entry_bytes c.args.size (lines_from c.args.text.now c.loop-i.at) = c.entry_bytes-at.ensures ∙ ap (entry_bytes c.args.size) here-lines in
    -- its slot ends within the slots
    let within : c.loop-i.i * c.entry_len-len.result + c.entry_len-len.result ≤ length c.loop-i.slots = let l = c.loop-i in
    let k = c.entry_len-len in
    omega (arith, l.invariant.3, c.requires.within.1, stride-le k.result l.i c.args.count c.loop-i-test.true, ap (λ (m : ℕ). c.args.count * m) k.ensures) in
    -- its words are in their slot
    let put : let l = c.loop-i in let end = (l.i * c.entry_len-len.result) + c.entry_len-len.result in Filled (length l.slots) end (take (l.i * c.entry_len-len.result) l.slots ++ c.read_entry.new.e) (put_mid (l.i * c.entry_len-len.result) (end - (l.i * c.entry_len-len.result)) l.slots c.read_entry.new.e) = let l = c.loop-i in
    more (record { long = refl; front = refl }) ((l.i * c.entry_len-len.result) + c.entry_len-len.result) c.read_entry.new.e (omega arith) within c.read_entry.auto.e in
    let l = c.loop-i in
    let a = c.args in
    let s = a.size in
    let t = a.text.now in
    let len = c.entry_len-len.result in
    let step : (l.i + 1) * len ≡ l.i * len + len = ap (λ (m : ℕ). m * len) (add-one l.i) ∙ suc-mul l.i len in
    let on = walk-on s a.count t l.at l.i l.invariant.0 c.loop-i-test.true whole in
    let reads = walk-reads s a.count t l.at l.i l.invariant.0 c.loop-i-test.true whole in
    let wrote = c.read_entry.ensures ∙ ap (λ (x : List (List ℕ)). words_of (zero_keyed (entry_on s x))) here-lines in
    let grown = words-next (entry_on s (lines_from c.args.text.now c.loop-i.at)) (entries_from s a.count t l.at l.i) (entries_from s a.count t (l.at + entry_bytes s (lines_from c.args.text.now c.loop-i.at)) (l.i + 1)) (take (l.i * c.entry_len-len.result) l.slots) _ c.read_entry.new.e _ put.front wrote next l.invariant.4 in (
      rw bytes on,
      rw bytes (reads ∙ l.invariant.1),
      rw bytes accepted.1,
      put.long ∙ l.invariant.3,
      rw (bytes, step) grown,
    )

pub returns : goal.returns
unfolding joined
returns c =
    let l = c.loop-i in
    let k = c.entry_len-len in
    let none = walk-done c.args.size c.args.count c.args.text.now l.at l.i l.invariant.0 (omega arith) l.invariant.1 in
    let i : l.i ≡ c.args.count = omega (arith, l.invariant.0.counted) in
    let long : length l.slots ≤ (l.i * c.entry_len-len.result) = omega (arith, l.invariant.3, c.requires.within.1, ap (λ (m : ℕ). m * k.result) i, ap (λ (m : ℕ). c.args.count * m) k.ensures) in
    sym (append-nil l.slots)
    ∙ sym (ap (λ (w : List ℕ). w ++ []) (take_all (l.i * c.entry_len-len.result) l.slots long))
    ∙ sym (ap (λ (es : List Entry). take (l.i * c.entry_len-len.result) l.slots ++ words_read es) none)
    ∙ l.invariant.4
