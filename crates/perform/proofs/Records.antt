-- Records and text as the calls leave them. Assumes nothing.
use mathlib.Core.Path.{◌≡◌, refl, sym, ap, ap₂, ◌∙◌}
use mathlib.Core.Bool.{Bool}
use mathlib.Core.List.{List, [], ◌++◌}
use Prim.Native.Nat.{ℕ, ◌≤◌}
use lib.Ieee.{Float}
use lib.ListN.{length, drop_of_length-le}
use borrow.Rule.Slice.PartMut.{put_mid, mid_of}
use Rattle.model.specs.Calls.{Call, table, pick, view, Form, as_words, as_bytes, as_entry, form_of, Kind, Lent, held, Left, gave, looking, kind_of, step, overlaid}
use Rattle.model.specs.declared.Answer.{Answer}
use Rattle.model.specs.Known.{Known, known_after}
use Rattle.model.proofs.Known.{step-known}
use Rattle.perform.specs.Records.{number_words, numbers, in_record, in_text, record_of, text_of, Made, Looked}
use Rattle.perform.proofs.Overs.{over-fits, over-stretch}
use Rattle.perform.proofs.Outputs.{room_for, output-fits, words-kept}

-- ---- a call that changes the sum: nothing behind its numbers, and no text

record-none : (f : Form) → in_record f [] ≡ []
unfolding in_record
record-none as_words = refl
record-none as_bytes = refl
record-none as_entry = refl

text-none : (f : Form) → in_text f [] ≡ []
unfolding in_text
text-none as_words = refl
text-none as_bytes = refl
text-none as_entry = refl

pub made-change : (c : Call) (x : Lent) (a : Answer) (w r t : List ℕ) {r' : List ℕ} → gave a w ≡ step c x → r' ≡ overlaid (numbers a) r → Made c x a w r r' t t
made-change c x a w r t e p =
    record {
      answer_is = ap (λ (l : Left). l.answer) e;
      words_are = ap (λ (l : Left). l.words) e;
      record_is = p ∙ ap (λ (o : List ℕ). overlaid (numbers a ++ o) r) (sym (record-none (form_of (kind_of c)))) ∙ ap (λ (l : Left). overlaid (record_of c l) r) e;
      text_is = ap (λ (o : List ℕ). overlaid o t) (sym (text-none (form_of (kind_of c)))) ∙ ap (λ (l : Left). overlaid (text_of c l) t) e;
    }

-- ---- a sheet or a page: all of it is text

pub made-text : (c : Call) (x : Lent) (a : Answer) (r t : List ℕ) {r' t' : List ℕ} → kind_of c ≡ looking as_bytes → a ≡ (step c x).answer → t' ≡ overlaid (step c x).output t → r' ≡ overlaid (numbers a) r
    → Made c x a x.words r r' t t'
unfolding in_record in_text form_of
made-text c x a r t k e o p =
    let s = step c x in
    record {
      answer_is = e;
      words_are = sym (words-kept c as_bytes x k);
      record_is = p ∙ ap₂ (λ (b : Answer) (f : Kind). overlaid (numbers b ++ in_record (form_of f) s.output) r) e (sym k);
      text_is = o ∙ ap (λ (f : Kind). overlaid (in_text (form_of f) s.output) t) (sym k);
    }

-- ---- a table or a view: lent a part of the record, behind the numbers

module _ (x : Lent) (a : Answer) (r : List ℕ) (m : ℕ) {y r' : List ℕ} (h : number_words ≤ length r) (l : length y ≡ length (mid_of number_words m r)) (p : r' ≡ overlaid (numbers a) (put_mid number_words m r y)) where
  shown-in : (s : Left) → a ≡ s.answer → y ≡ overlaid s.output (mid_of number_words m r) → r' ≡ overlaid (numbers s.answer ++ s.output) r
  shown-in s e o =
      p
      ∙ ap₂ (λ (b : Answer) (z : List ℕ). overlaid (numbers b) (put_mid number_words m r z)) e o
      ∙ over-stretch (numbers s.answer) s.output r m h (over-fits s.output (mid_of number_words m r) l o)

  pub looked-table : (room : ℕ) → a ≡ (step (table room) x).answer → y ≡ overlaid (step (table room) x).output (mid_of number_words m r) → Looked (table room) x a r r'
  unfolding in_record in_text form_of kind_of
  looked-table room e o =
      record { answer_is = e; words_are = sym (words-kept (table room) as_words x refl); record_is = shown-in (step (table room) x) e o; no_text = refl }

  pub looked-view : (place : ℕ) → a ≡ (step (view place) x).answer → y ≡ overlaid (step (view place) x).output (mid_of number_words m r) → Looked (view place) x a r r'
  unfolding in_record in_text form_of kind_of
  looked-view place e o =
      record { answer_is = e; words_are = sym (words-kept (view place) as_entry x refl); record_is = shown-in (step (view place) x) e o; no_text = refl }

-- ---- a pick: its numbers alone

pick-none : (draw : Float) (x : Lent) → (step (pick draw) x).output ≡ []
unfolding room_for
pick-none draw x = drop_of_length-le (step (pick draw) x).output {i = 0} (output-fits x (pick draw))

pub looked-pick : (draw : Float) (x : Lent) (a : Answer) (r : List ℕ) {r' : List ℕ} → a ≡ (step (pick draw) x).answer → r' ≡ overlaid (numbers a) r → Looked (pick draw) x a r r'
unfolding in_record in_text form_of kind_of
looked-pick draw x a r e p =
    record {
      answer_is = e;
      words_are = sym (words-kept (pick draw) as_words x refl);
      record_is = p ∙ ap₂ (λ (b : Answer) (o : List ℕ). overlaid (numbers b ++ o) r) e (sym (pick-none draw x));
      no_text = refl;
    }

-- ---- any of these three

pub made-look : {c : Call} {x : Lent} {a : Answer} {r r' : List ℕ} (t : List ℕ) → Looked c x a r r' → Made c x a x.words r r' t t
made-look t l =
    record { answer_is = l.answer_is; words_are = l.words_are; record_is = l.record_is; text_is = sym (ap (λ (o : List ℕ). overlaid o t) l.no_text) }

-- ---- any call: and so much is known of what it left

pub with-known : (k : Bool) (x : Lent) → Known k x → {c : Call} {a : Answer} {w r r' t t' : List ℕ} → Made c x a w r r' t t'
    → Made c x a w r r' t t' × Known (known_after k a.number) (held a.header w)
with-known k x b {c} m = (m, rw (m.answer_is, m.words_are) (step-known c k x b))
