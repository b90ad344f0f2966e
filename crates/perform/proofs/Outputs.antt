-- What a call writes or shows: as much as its answer's length says, and never more than there is room for. Assumes nothing.
use mathlib.Core.Path.{◌≡◌, refl, ap, ◌∙◌}
use mathlib.Core.Bool.{Bool, true, false, cond}
use mathlib.Core.List.{List, [], ◌∷◌}
use Prim.Native.Nat.{ℕ, suc, ◌*◌, ◌≤◌}
use native.Mathlib.Omega.{arith}
use lib.Dec.{eqb, ltb}
use lib.Ieee.{Float}
use lib.ListN.{length, length-map}
use borrow.Author.Tests.{ltb-false}
use Rattle.model.specs.Entries.{Entry, Keyed}
use Rattle.model.specs.Floats.{plus, above, float, zero_bits}
use Rattle.model.specs.Numbers.{Test, gives, first_of}
use Rattle.model.specs.Sheet.{sheet_text}
use Rattle.model.specs.Page.{page_text}
use Rattle.model.specs.Sum.{Result, done, refused, map_result}
use Rattle.model.specs.Table.{Placed, placed_from, insert, falling, table_order, table_from, table_words}
use Rattle.model.specs.Calls.{Call, noise, reset, gate, truncate, normalise, table, pick, sheet, view, page, Sum, Outcome, changed_to, Lent, Left, Form, looking, kind_of, engine, bare, sheet_of, unless, tests, shape, zeros_past, act, performed, accepted, plain_answer, words_after, left, step, worked}
use Rattle.view.proofs.Answers.{Viewed, refused as view-refused, shown as view-shown, viewed, stretch-long}
use Rattle.perform.specs.Encoding.{shown_words}

-- ---- the words of a table

insert-length : (p : Placed) (os : List Placed) → length (insert p os) ≡ suc (length os)
unfolding insert
insert-length p [] = refl
insert-length p (o ∷ os) = go (above o.weight p.weight) (insert-length p os)
  where
    go : (b : Bool) → length (insert p os) ≡ suc (length os) → length (cond b (o ∷ insert p os) (p ∷ o ∷ os)) ≡ suc (suc (length os))
    go true e = ap suc e
    go false e = refl

order-length : (i : ℕ) (es : List Entry) → length (falling (placed_from i es)) ≡ length es
unfolding falling placed_from
order-length i [] = refl
order-length i (e ∷ es) = insert-length _ (falling (placed_from (suc i) es)) ∙ ap suc (order-length (suc i) es)

from-length : (t : Float) (ps : List Placed) → length (table_from t ps) ≡ 2 * length ps
unfolding table_from
from-length t [] = refl
from-length t (p ∷ ps) = let e = from-length (plus t p.weight) ps in omega arith

table-length : (es : List Entry) → length (table_words es) ≡ 2 * length es
unfolding table_words table_order
table-length es =
    from-length (float zero_bits) (falling (placed_from 0 es)) ∙ ap (λ (n : ℕ). 2 * n) (order-length 0 es)

-- ---- what a result has for output

abbrev output_of : Result (Outcome Keyed) → List ℕ
output_of (refused n) = []
output_of (done o) = o.output

output-is : (c : Call) (x : Lent) (m : Sum Keyed) (r : Result (Outcome Keyed)) → (left c x m r).output ≡ output_of r
unfolding left
output-is c x m (refused n) = refl
output-is c x m (done o) = refl

-- tests only take it away
unless-fits : (ts : List Test) (r : Result (Outcome Keyed)) (k : ℕ) → length (output_of r) ≤ k → length (output_of (unless ts r)) ≤ k
unfolding unless
unless-fits ts r k h = go (eqb (first_of ts) 0)
  where
    go : (b : Bool) → length (output_of (cond b r (refused (first_of ts)))) ≤ k
    go true = h
    go false = omega arith

-- where number 8 is tested first, it is as long as the room at most
roomy : (room need : ℕ) (ts : List Test) (r : Result (Outcome Keyed)) → length (output_of r) ≡ need → length (output_of (unless (gives 8 (ltb room need) ∷ ts) r)) ≤ room
unfolding unless first_of
roomy room need ts r e = go (ltb room need) refl
  where
    go : (b : Bool) → ltb room need ≡ b → length (output_of (cond (eqb (cond b 8 (first_of ts)) 0) r (refused (cond b 8 (first_of ts))))) ≤ room
    go true p = omega arith
    go false p = unless-fits ts r room (omega (arith, ltb-false room need p))

-- a call that changes the sum has none
changed-none : {A : Type 0} (f : A → Outcome Keyed) (r : Result A) → ((a : A) → (f a).output ≡ []) → length (output_of (map_result f r)) ≤ 0
unfolding map_result
changed-none f (refused n) h = omega arith
changed-none f (done a) h = omega (arith, ap length (h a))

-- ---- the room of a call's output

unfoldable pub room_for : Call → ℕ
room_for (noise c) = 0
room_for (reset q) = 0
room_for (gate g) = 0
room_for truncate = 0
room_for normalise = 0
room_for (table room) = room
room_for (pick draw) = 0
room_for (sheet room) = room
room_for (view place) = shown_words
room_for (page room) = room

view-fits : (x : Lent) (place : ℕ) → Viewed x place → length (step (view place) x).output ≤ shown_words
view-fits x place (view-refused n z e) = omega (arith, ap (λ (l : Left). length l.output) e)
view-fits x place (view-shown h p e) =
    omega (arith, ap (λ (l : Left). length l.output) e, stretch-long x place h p, p.sized.qubits.high, p.sized.coefficients.high)

module _ (x : Lent) where
  -- a call whose act fits
  stepped : (c : Call) (k : ℕ) → ((m : Sum Keyed) → length (output_of (act engine c m)) ≤ k) → length (step c x).output ≤ k
  unfolding step performed
  stepped c k h =
      let m = worked c x in
      let ts = tests c m.size (zeros_past x) (bare engine m) in
      let r = act engine c m in
      omega (arith, ap length (output-is c x m (unless (shape x) (unless ts r))), unless-fits (shape x) (unless ts r) k (unless-fits ts r k (h m)))

  pub output-fits : (c : Call) → length (step c x).output ≤ room_for c
  unfolding room_for act
  output-fits (noise c) = stepped (noise c) 0 (λ m. changed-none changed_to _ (λ a. refl))
  output-fits (reset q) = stepped (reset q) 0 (λ m. omega arith)
  output-fits (gate g) = stepped (gate g) 0 (λ m. omega arith)
  output-fits truncate = stepped truncate 0 (λ m. changed-none _ _ (λ a. refl))
  output-fits normalise = stepped normalise 0 (λ m. changed-none _ _ (λ a. refl))
  output-fits (table room) = stepped (table room) room (λ m. roomy room (2 * length m.entries) _ _ (table-length (bare engine m) ∙ ap (λ (n : ℕ). 2 * n) (length-map m.entries _)))
  output-fits (pick draw) = stepped (pick draw) 0 (λ m. unless-fits _ _ 0 (omega arith))
  output-fits (sheet room) = stepped (sheet room) room (λ m. roomy room (length (sheet_text (sheet_of engine m))) _ _ refl)
  output-fits (view place) = view-fits x place (viewed x place)
  output-fits (page room) = stepped (page room) room (λ m. roomy room (length (page_text (bare engine m))) _ _ refl)

-- ---- its length is told, and a call that looks leaves the words

length-told : (c : Call) (x : Lent) (m : Sum Keyed) (r : Result (Outcome Keyed)) → (left c x m r).answer.length ≡ length (left c x m r).output
unfolding left accepted plain_answer
length-told c x m (refused n) = refl
length-told c x m (done o) = refl

pub length-is : (c : Call) (x : Lent) → (step c x).answer.length ≡ length (step c x).output
unfolding step
length-is c x = length-told c x _ _

words_left : (c : Call) (f : Form) (x : Lent) (m : Sum Keyed) (r : Result (Outcome Keyed)) → kind_of c ≡ looking f → (left c x m r).words ≡ x.words
unfolding left words_after
words_left c f x m (refused n) e = refl
words_left c f x m (done o) e = rw e

pub words-kept : (c : Call) (f : Form) (x : Lent) → kind_of c ≡ looking f → (step c x).words ≡ x.words
unfolding step
words-kept c f x e = words_left c f x _ _ e
