-- What a call leaves that only looks: the header and the words as they were. Assumes nothing.
use mathlib.Core.Path.{◌≡◌, refl, sym, ap, ap₂, ◌∙◌}
use mathlib.Core.List.{List, [], ◌∷◌, ◌++◌}
use Prim.Native.Nat.{ℕ, ◌-◌, ◌<◌, ◌≤◌}
use native.Mathlib.Omega.{arith}
use lib.Dec.{ltb}
use lib.ListN.{length, drop}
use borrow.Author.Tests.{lt-ltb, le-ltb}
use Rattle.model.specs.Entries.{Keyed}
use Rattle.model.specs.Store.{Holding, no_loss, tested_all, how_many}
use Rattle.model.specs.Sum.{done, refused}
use Rattle.model.specs.Numbers.{gives, first_of}
use Rattle.model.specs.Calls.{Call, Lent, Left, looking, Form, as_bytes, kind_of, engine, sum_of, shows, answer_of, no_counts, plain_answer, accepted, rebuilt, dirty_after, words_after, split_as, split_by, tested_by, unless, act, left, acted, refused_left, overlaid}
use Rattle.model.specs.declared.Answer.{Answer}
use Rattle.model.proofs.Entries.{length-listed}
use Rattle.model.proofs.Steps.{unless-first, unless-none}

-- with this answer, and this output
abbrev pub looked_left : Lent → ℕ → List ℕ → Left
looked_left x place output = record { answer = answer_of 0 x.header no_counts no_loss place (length output); words = x.words; output = output }

split-is : (H : Holding Keyed) (c : Call) (l : List Keyed) → split_by H c l ≡ split_as H (kind_of c) l
unfolding split_by
split-is H c l = refl

module _ (c : Call) (x : Lent) (f : Form) (k : kind_of c ≡ looking f) where
  at-work : acted c x ≡ left c x (sum_of x) (act engine c (sum_of x))
  unfolding rebuilt
  at-work = rw k

  -- it compares nothing
  compares-none : tested_by c (sum_of x) ≡ []
  unfolding tested_by split_as tested_all
  compares-none = rw (split-is, k)

  -- 8, 9 or 10
  pub looked-refused : (n : ℕ) → act engine c (sum_of x) ≡ refused n → acted c x ≡ refused_left x n
  unfolding left
  looked-refused n a = at-work ∙ ap (left c x (sum_of x)) a

  -- 0
  pub looked : (place : ℕ) (output : List ℕ) → act engine c (sum_of x) ≡ done (shows engine (sum_of x) place output) → acted c x ≡ looked_left x place output
  unfolding left accepted dirty_after words_after how_many
  looked place output a =
      at-work ∙ ap (left c x (sum_of x)) a ∙ rw (k, compares-none, length-listed x.header.size x.header.count x.words)

-- a call that writes text: where number 8 is its only test, there is no room for the text, or all of it is written
module _ (c : Call) (x : Lent) (room : ℕ) (text : List ℕ) (k : kind_of c ≡ looking as_bytes)
    (a : act engine c (sum_of x) ≡ unless (gives 8 (ltb room (length text)) ∷ []) (done (shows engine (sum_of x) 0 text))) where
  pub text-short : room < length text → acted c x ≡ refused_left x 8
  unfolding first_of
  text-short h = looked-refused c x as_bytes k 8 (a ∙ unless-first (gives 8 (ltb room (length text)) ∷ []) (done (shows engine (sum_of x) 0 text)) 8 (rw (lt-ltb room (length text) h)) (λ z. omega arith))

  pub text-written : length text ≤ room → acted c x ≡ looked_left x 0 text
  unfolding first_of
  text-written h = looked c x as_bytes k 0 text (a ∙ unless-none (gives 8 (ltb room (length text)) ∷ []) (done (shows engine (sum_of x) 0 text)) (rw (le-ltb room (length text) h)))

-- ---- what a public call answers and leaves of its output slice

-- it answers with a number and changes nothing
pub refused-answer : {r : Answer} {l : Left} (x : Lent) (n : ℕ) → r ≡ plain_answer x.header n → l ≡ refused_left x n → r ≡ l.answer
refused-answer x n e p = e ∙ sym (ap (λ (l : Left). l.answer) p)

-- .. nor a word of its output slice
pub refused-out : {r : Answer} {l : Left} (x : Lent) (out : List ℕ) (n : ℕ) → r ≡ plain_answer x.header n → l ≡ refused_left x n
    → (r ≡ l.answer) × (out ≡ overlaid l.output out)
refused-out x out n e p = (refused-answer x n e p, sym (ap (λ (l : Left). overlaid l.output out) p))

-- the text stands at the start of its output slice, of which `long` bytes were lent
pub written_out : {r : Answer} {l : Left} {piece text : List ℕ} (x : Lent) (out : List ℕ) (long : ℕ) → r ≡ answer_of 0 x.header no_counts no_loss 0 long → piece ≡ text → long ≡ length text → l ≡ looked_left x 0 text
    → (r ≡ l.answer) × (piece ++ drop (long - 0) out ≡ overlaid l.output out)
written_out x out long e p q w =
    let z : long - 0 ≡ long = omega arith in (
      e ∙ ap (answer_of 0 x.header no_counts no_loss 0) q ∙ sym (ap (λ (l : Left). l.answer) w),
      ap₂ (λ (t : List ℕ) (k : ℕ). t ++ drop k out) p (z ∙ q) ∙ sym (ap (λ (l : Left). overlaid l.output out) w),
    )
