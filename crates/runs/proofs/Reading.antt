-- What is read from the records and the text that a run leaves is what its calls showed. Assumes nothing.
use mathlib.Core.Path.{◌≡◌, refl, sym, ap, ap₂, ◌∙◌}
use mathlib.Core.Bool.{Bool, true, false, cond}
use mathlib.Core.List.{List, [], ◌∷◌, ◌++◌, map}
use Prim.Native.Nat.{ℕ, ◌*◌, ◌≤◌}
use native.Mathlib.Nat.{suc-mul}
use native.Mathlib.Omega.{arith}
use lib.Dec.{eqb}
use borrow.Author.Tests.{eqb-true}
use lib.ListN.{length, take, drop, get_or, length-append, length-drop}
use lib.Seq.{take_at, drop_at, length-take-le}
use Rattle.model.specs.Calls.{Call, noise, reset, gate, truncate, normalise, table, pick, sheet, view, page, Form, as_words, as_bytes, as_entry, form_of, kind_of, Lent, Left, step, overlaid}
use Rattle.model.specs.Lists.{every}
use Rattle.model.proofs.Lists.{and_both}
use Rattle.perform.specs.Encoding.{shown_words, kind_in, shows_words, fitting, call_by, call_of}
use Rattle.perform.specs.Records.{numbers, in_record, in_text, record_of, text_of}
use Rattle.perform.proofs.Encoded.{table-shows, view-shows, room_small}
use Rattle.perform.proofs.Outputs.{room_for, output-fits, length-is}
use Rattle.model.specs.Demand3.{next, Shown, shown_by, all_shown, all_compared}
use Rattle.runs.specs.Runs.{record_len, filled}
use Rattle.runs.specs.declared.Room.{Room}
use Rattle.runs.proofs.Fitting.{FittingCall, call_fits}
use Rattle.runs.specs.Promise.{output_in, shown_in, read_shown, read_compared}

-- ---- one stretch of `len` words, written over, and what follows it

module _ (len : ℕ) (o w r : List ℕ) (h : length o ≤ len) (g : len ≤ length w) where
  stretch-long : length (overlaid o (take len w)) ≡ len
  stretch-long =
      length-append o (drop (length o) (take len w)) ∙ (omega (arith, length-drop (length o) (take len w), length-take-le len w g))

  first-is : take len (overlaid o (take len w) ++ r) ≡ overlaid o (take len w)
  first-is = take_at (overlaid o (take len w)) r len stretch-long

  rest-is : drop len (overlaid o (take len w) ++ r) ≡ r
  rest-is = drop_at (overlaid o (take len w)) r len stretch-long

-- ---- one call

-- its output, as many words as its length says
output-as : (f : Form) (l : Left) (r t : List ℕ) → l.answer.length ≡ length l.output
    → output_in f l.answer.length (overlaid (numbers l.answer ++ in_record f l.output) r) (overlaid (in_text f l.output) t) ≡ l.output
unfolding output_in in_record in_text
output-as as_words l r t e = take_at l.output _ l.answer.length (sym e)
output-as as_bytes l r t e = take_at l.output _ l.answer.length (sym e)
output-as as_entry l r t e = take_at l.output _ l.answer.length (sym e)

shown_read : (c : Call) (x : Lent) (r t : List ℕ) → shown_in c (overlaid (record_of c (step c x)) r) (overlaid (text_of c (step c x)) t) ≡ shown_by c (step c x)
shown_read c x r t =
    let l = step c x in
    ap (λ (o : List ℕ). shown_by c (record { answer = l.answer; words = l.words; output = o })) (output-as (form_of (kind_of c)) l r t (length-is c x))

-- ---- every call that fits has room for what it shows

record Roomy (room : Room) (c : Call) : Type 0 where
  pub in-record : (x : Lent) → length (record_of c (step c x)) ≤ record_len room
  pub in-text : (x : Lent) → length (text_of c (step c x)) ≤ room.bytes

module _ (room : Room) where
  -- one that shows words
  words-roomy : (c : Call) → room_for c ≤ room.shown → ((o : List ℕ) → in_record (form_of (kind_of c)) o ≡ o) → ((o : List ℕ) → in_text (form_of (kind_of c)) o ≡ []) → Roomy room c
  words-roomy c h r t =
      record {
        in-record = λ x. omega (arith, length-append (numbers (step c x).answer) (in_record (form_of (kind_of c)) (step c x).output), ap length (r (step c x).output), output-fits x c);
        in-text = λ x. omega (arith, ap length (t (step c x).output));
      }

  -- one that shows bytes
  text-roomy : (c : Call) → room_for c ≤ room.bytes → ((o : List ℕ) → in_record (form_of (kind_of c)) o ≡ []) → ((o : List ℕ) → in_text (form_of (kind_of c)) o ≡ o) → Roomy room c
  text-roomy c h r t =
      record {
        in-record = λ x. omega (arith, length-append (numbers (step c x).answer) (in_record (form_of (kind_of c)) (step c x).output), ap length (r (step c x).output));
        in-text = λ x. omega (arith, ap length (t (step c x).output), output-fits x c, h);
      }

  either : (b : Bool) {c d : Call} → (b ≡ true → Roomy room c) → Roomy room d → Roomy room (cond b c d)
  either true p q = p refl
  either false p q = q

  -- one that shows none
  none-roomy : (c : Call) → room_for c ≡ 0 → ((o : List ℕ) → in_record (form_of (kind_of c)) o ≡ o) → ((o : List ℕ) → in_text (form_of (kind_of c)) o ≡ []) → Roomy room c
  none-roomy c e = words-roomy c (omega arith)

  call-roomy : (w : List ℕ) → FittingCall room.shown w → Roomy room (call_of room.bytes w)
  unfolding call_by in_record in_text form_of kind_of room_for
  call-roomy w f =
      let k = kind_in w in
      let wide : shows_words w ≡ true → shown_words ≤ room.shown = f.shows in
      let text : room.bytes ≤ room.bytes = omega arith in
      either (eqb k 0) (λ e. none-roomy (noise _) refl (λ o. refl) (λ o. refl))
      (either (eqb k 1) (λ e. none-roomy (noise _) refl (λ o. refl) (λ o. refl))
      (either (eqb k 2) (λ e. none-roomy (noise _) refl (λ o. refl) (λ o. refl))
      (either (eqb k 3) (λ e. none-roomy (noise _) refl (λ o. refl) (λ o. refl))
      (either (eqb k 4) (λ e. none-roomy (noise _) refl (λ o. refl) (λ o. refl))
      (either (eqb k 5) (λ e. none-roomy (reset _) refl (λ o. refl) (λ o. refl))
      (either (eqb k 6) (λ e. none-roomy (gate _) refl (λ o. refl) (λ o. refl))
      (either (eqb k 7) (λ e. none-roomy (gate _) refl (λ o. refl) (λ o. refl))
      (either (eqb k 8) (λ e. none-roomy (gate _) refl (λ o. refl) (λ o. refl))
      (either (eqb k 9) (λ e. none-roomy truncate refl (λ o. refl) (λ o. refl))
      (either (eqb k 10) (λ e. none-roomy normalise refl (λ o. refl) (λ o. refl))
      (either (eqb k 11) (λ e. words-roomy (table _) (omega (arith, room_small w, wide (table-shows w (eqb-true k 11 e)))) (λ o. refl) (λ o. refl))
      (either (eqb k 12) (λ e. none-roomy (pick _) refl (λ o. refl) (λ o. refl))
      (either (eqb k 13) (λ e. text-roomy (sheet room.bytes) text (λ o. refl) (λ o. refl))
      (either (eqb k 14) (λ e. words-roomy (view _) (wide (view-shows w (eqb-true k 14 e))) (λ o. refl) (λ o. refl))
      (text-roomy (page room.bytes) text (λ o. refl) (λ o. refl))))))))))))))))

  -- ---- all calls

  abbrev len : ℕ
  len = record_len room

  abbrev bytes : ℕ
  bytes = room.bytes

  abbrev said : List (List ℕ) → List Call
  said gs = map (call_of bytes) gs

  first_fits : (g : List ℕ) (gs : List (List ℕ)) → every (fitting room.shown) (g ∷ gs) ≡ true → Roomy room (call_of bytes g) × (every (fitting room.shown) gs ≡ true)
  unfolding every
  first_fits g gs f = let b = and_both (fitting room.shown g) (every (fitting room.shown) gs) f in (call-roomy g (call_fits room.shown g b.0), b.1)

  pub all_shown-is : (gs : List (List ℕ)) (x : Lent) (log text : List ℕ) → every (fitting room.shown) gs ≡ true → length gs * len ≤ length log → length gs * bytes ≤ length text
      → read_shown room (said gs) (filled len record_of (said gs) x log) (filled bytes text_of (said gs) x text) ≡ all_shown (said gs) x
  unfolding read_shown filled all_shown
  all_shown-is [] x log text f p q = refl
  all_shown-is (g ∷ gs) x log text f p q =
      let c = call_of bytes g in
      let l = step c x in
      let cs = said gs in
      let e₁ = suc-mul (length gs) len in
      let e₂ = suc-mul (length gs) bytes in
      let h = first_fits g gs f in
      let m = h.0.in-record x in
      let n = h.0.in-text x in
      let a : len ≤ length log = omega arith in
      let b : bytes ≤ length text = omega arith in
      let u = filled len record_of cs (next l) (drop len log) in
      let v = filled bytes text_of cs (next l) (drop bytes text) in
      ap₂ (λ (y : Shown) (ys : List Shown). y ∷ ys)
      (ap₂ (λ (r t : List ℕ). shown_in c r t) (first-is len (record_of c l) log u m a) (first-is bytes (text_of c l) text v n b) ∙ shown_read c x (take len log) (take bytes text))
      (ap₂ (λ (r t : List ℕ). read_shown room cs r t) (rest-is len (record_of c l) log u m a) (rest-is bytes (text_of c l) text v n b)
      ∙ all_shown-is gs (next l) (drop len log) (drop bytes text) h.1 (omega (arith, length-drop len log)) (omega (arith, length-drop bytes text)))

  pub all-compared : (gs : List (List ℕ)) (x : Lent) (log : List ℕ) → every (fitting room.shown) gs ≡ true → length gs * len ≤ length log → read_compared room (said gs) (filled len record_of (said gs) x log) ≡ all_compared (said gs) x
  unfolding read_compared filled all_compared
  all-compared [] x log f p = refl
  all-compared (g ∷ gs) x log f p =
      let c = call_of bytes g in
      let l = step c x in
      let cs = said gs in
      let e = suc-mul (length gs) len in
      let h = first_fits g gs f in
      let m = h.0.in-record x in
      let a : len ≤ length log = omega arith in
      let u = filled len record_of cs (next l) (drop len log) in
      ap₂ (λ (y : ℕ) (ys : List ℕ). y ∷ ys) (ap (λ (r : List ℕ). get_or r 4 0) (first-is len (record_of c l) log u m a))
      (ap (read_compared room cs) (rest-is len (record_of c l) log u m a) ∙ all-compared gs (next l) (drop len log) h.1 (omega (arith, length-drop len log)))
