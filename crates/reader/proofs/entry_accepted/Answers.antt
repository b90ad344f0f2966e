use mathlib.Core.Path.{◌≡◌, refl, sym, ap, ◌∙◌}
use mathlib.Core.List.{List}
use Prim.Native.Nat.{ℕ, ◌*◌, ◌≤◌}
use native.Mathlib.Omega.{arith}
use lib.ListN.{length}
use borrow.Rule.Slice.PartMut.{mid_len}
use Rattle.model.specs.Entries.{Keyed, strip, entry_of}
use Rattle.model.proofs.Packed.{Fits, entry-words, words-length}
use Rattle.checks.specs.Sound.{entry_sound}
use Rattle.reader.specs.Reading.{lines_on, count_on, entry_on, zero_keyed}
use Rattle.reader.proofs.Lined.{lines_long, field_at}
use Rattle.reader.proofs.Entry.{entry-fits, too_many}
use Rattle.reader.proofs.Filled.{front_read}
use Rattle.reader.proofs.entry_accepted.Goals as goal

pub number_at-requires : goal.number_at-requires
number_at-requires c =
    let long : length c.args.text.now ≡ length (lines_on c.args.text.now) * 64 = lines_long c.args.text.now c.requires.1 in
    omega (arith, long, c.requires.2)

pub returns-then-k-number_at : goal.returns-then-k-number_at
returns-then-k-number_at c =
    let counted : c.number_at.result ≡ count_on (lines_on c.args.text.now) = c.number_at.ensures _ (field_at c.args.text.now c.requires.1 42 0 2 refl (omega (arith, c.requires.2)) (omega arith)) in
    sym (too_many c.args.size (lines_on c.args.text.now) (omega (arith, counted, c.if-k-number_at.true)))

pub read_entry-requires : goal.read_entry-requires
read_entry-requires c =
    let counted : c.number_at.result ≡ count_on (lines_on c.args.text.now) = c.number_at.ensures _ (field_at c.args.text.now c.requires.1 42 0 2 refl (omega (arith, c.requires.2)) (omega arith)) in
    let few : count_on (lines_on c.args.text.now) ≤ c.args.size.k = omega (arith, counted, c.if-k-number_at.false) in
    -- the scratch words suffice
    let room : c.entry_len-len.result ≤ 461 = omega (arith, c.entry_len-len.ensures, c.requires.0.qubits, c.requires.0.coefficients) in
    record {
      within = (c.requires.0, mid_len 0 c.entry_len-len.result _ room ∙ (omega (arith, c.entry_len-len.ensures)));
      lined = (c.requires.1, c.requires.2, few);
    }

pub returns : goal.returns
returns c =
    let counted : c.number_at.result ≡ count_on (lines_on c.args.text.now) = c.number_at.ensures _ (field_at c.args.text.now c.requires.1 42 0 2 refl (omega (arith, c.requires.2)) (omega arith)) in
    let few : count_on (lines_on c.args.text.now) ≤ c.args.size.k = omega (arith, counted, c.if-k-number_at.false) in
    let fits : Fits c.args.size (zero_keyed (entry_on c.args.size (lines_on c.args.text.now))) = entry-fits c.args.text.now c.requires.1 c.args.size c.requires.2 few in
    let read-long : length c.read_entry.new.e ≡ c.entry_len-len.result = ap length c.read_entry.ensures ∙ words-length c.args.size _ fits ∙ sym c.entry_len-len.ensures in
    c.entry_sound.ensures
    ∙ ap (λ (w : List ℕ). entry_sound c.args.size (strip (entry_of c.args.size w)))
    (front_read c.read_entry.new.e _ c.entry_len-len.result read-long ∙ c.read_entry.ensures)
    ∙ ap (λ (e : Keyed). entry_sound c.args.size (strip e)) (entry-words c.args.size (zero_keyed (entry_on c.args.size (lines_on c.args.text.now))) fits)
