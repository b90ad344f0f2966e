-- What the second pass leaves of a sum: all calls of all lines that were read, each accepted, if it ends with the circuit's end; the calls up to the
-- first that is refused however it ends. Assumes nothing.
use Prim.Native.Nat.{ℕ}
use mathlib.Core.Path.{◌≡◌, refl, sym, ap, subst, ◌∙◌}
use mathlib.Core.Bool.{Bool, true, false, cond, not, ◌&&◌}
use mathlib.Core.List.{List, [], ◌∷◌, ◌++◌, append_assoc, append-nil}
use lib.Dec.{eqb}
use lib.Ieee.{Float}
use native.Mathlib.Omega.{arith}
use borrow.Author.Tests.{eq-eqb, ne_eqb}
use Rattle.model.specs.Calls.{Call, Lent, step}
use Rattle.model.specs.Demand3.{next, after_calls, made_of}
use Rattle.passes.specs.declared.Outcome.{Outcome}
use Rattle.circuit.specs.declared.lines.Item.{Item}
use Rattle.passes.specs.Going.{goes}
use Rattle.passes.specs.Turns.{line, no_line, Passed, begun, then}
use Rattle.passes.proofs.Turns.{not_going, other-outcome, stands-not-end, unread-ends}
use Rattle.second_pass.specs.Lines.{line_calls, circuit_calls, After, goes_on_after, unwritten, too_much_lost, refused, Made, all_made, goes_on, ends, Ran, instruction, other, LineRan, Accepted, none, one, Whole, UpToRefusal}

-- ---- calls that are all accepted, and those behind them

after_both : (cs ds : List Call) (x : Lent) → after_calls (cs ++ ds) x ≡ after_calls ds (after_calls cs x)
unfolding after_calls
after_both [] ds x = refl
after_both (c ∷ cs) ds x = after_both cs ds (next (step c x))

accepted-both : {cs ds : List Call} {x : Lent} → Accepted cs x → Accepted ds (after_calls cs x) → Accepted (cs ++ ds) x
unfolding after_calls
accepted-both none b = b
accepted-both (one e a) b = one e (accepted-both a b)

-- a call of this number: whether it ends a list
goes-past : (number : ℕ) → number ≡ 0 → (true && not (eqb number 0)) ≡ false
goes-past number e = ap not (eq-eqb number 0 e)

ends_there : (number : ℕ) → (number ≡ 0 → ⊥) → (true && not (eqb number 0)) ≡ true
ends_there number h = ap not (ne_eqb number 0 h)

made-past : {cs : List Call} (ds : List Call) {x : Lent} → Accepted cs x → made_of true (cs ++ ds) x ≡ cs ++ made_of true ds (after_calls cs x)
unfolding made_of after_calls
made-past ds none = refl
made-past ds (one {c = c} {cs = cs} {x = x} e a) =
    ap (λ (b : Bool). c ∷ cond b [] (made_of true (cs ++ ds) (next (step c x)))) (goes-past (step c x).answer.number e) ∙ ap (λ (l : List Call). c ∷ l) (made-past ds a)

-- ---- the calls of one line

-- all of them, accepted, which left y
record All (cs : List Call) (x y : Lent) : Type 0 where
  is : y ≡ after_calls cs x
  accepted : Accepted cs x

-- those that the pass came to, up to the first that is refused
record Reached (cs : List Call) (x y : Lent) (o : Outcome) : Type 0 where
  reached : List Call
  left : List Call
  all : cs ≡ reached ++ left
  is : y ≡ after_calls (made_of true reached x) x
  none_left : (o ≡ Outcome.Unwritten → ⊥) → ((lost : Float) → o ≡ Outcome.TooMuchLost lost → ⊥) → left ≡ []

after-zero : {n : ℕ} → After n Outcome.Going → n ≡ 0
after-zero (goes_on_after e) = e

made_all : {cs : List Call} {x y : Lent} {o : Outcome} → Made cs x y o → o ≡ Outcome.Going → All cs x y
unfolding after_calls
made_all all_made g = record { is = refl; accepted = none }
made_all (goes_on a m) g = let r = made_all m g in record { is = r.is; accepted = one (after-zero a) r.accepted }
made_all (ends a h) g = absurd (h g)

-- it was left off behind an accepted call
left-off : (c : Call) (cs : List Call) (x : Lent) (o : Outcome) → (step c x).answer.number ≡ 0 → ((o ≡ Outcome.Unwritten → ⊥) → ((lost : Float) → o ≡ Outcome.TooMuchLost lost → ⊥) → ⊥)
    → Reached (c ∷ cs) x (next (step c x)) o
unfolding after_calls made_of
left-off c cs x o e h =
    record {
      reached = c ∷ [];
      left = cs;
      all = refl;
      is = ap (λ (b : Bool). after_calls (cond b [] []) (next (step c x))) (sym (goes-past (step c x).answer.number e));
      none_left = λ u l. absurd (h u l);
    }

made-reached : {cs : List Call} {x y : Lent} {o : Outcome} → Made cs x y o → Reached cs x y o
unfolding after_calls made_of
made-reached all_made = record { reached = []; left = []; all = refl; is = refl; none_left = λ u l. refl }
made-reached (goes_on {c = c} {x = x} a m) =
    let r = made-reached m in
    let n = goes-past (step c x).answer.number (after-zero a) in
    record {
      reached = c ∷ r.reached;
      left = r.left;
      all = ap (λ (l : List Call). c ∷ l) r.all;
      is = r.is ∙ ap (λ (b : Bool). after_calls (cond b [] (made_of true r.reached (next (step c x)))) (next (step c x))) (sym n);
      none_left = r.none_left;
    }
made-reached (ends (goes_on_after e) h) = absurd (h refl)
made-reached (ends {c = c} {cs = cs} {x = x} (unwritten e) h) = left-off c cs x Outcome.Unwritten e (λ u l. u refl)
made-reached (ends {c = c} {cs = cs} {x = x} (too_much_lost {lost = lost} e) h) = left-off c cs x (Outcome.TooMuchLost lost) e (λ u l. l lost refl)
made-reached (ends {c = c} {cs = cs} {x = x} (refused n) h) =
    record {
      reached = c ∷ cs;
      left = [];
      all = sym (append-nil (c ∷ cs));
      is = ap (λ (b : Bool). after_calls (cond b [] (made_of true cs (next (step c x)))) (next (step c x))) (sym (ends_there (step c x).answer.number n));
      none_left = λ u l. refl;
    }

-- of whatever a line asks for
ran-all : {i : Item} {cs : List Call} {x y : Lent} {o : Outcome} → Ran i cs x y o → o ≡ Outcome.Going → All cs x y
unfolding after_calls
ran-all (instruction m) g = made_all m g
ran-all (other s) g = record { is = refl; accepted = none }

ran-reached : {i : Item} {cs : List Call} {x y : Lent} {o : Outcome} → Ran i cs x y o → Reached cs x y o
unfolding after_calls made_of
ran-reached (instruction m) = made-reached m
ran-reached (other s) = record { reached = []; left = []; all = refl; is = refl; none_left = λ u l. refl }

-- ---- the circuit's end is read in no line

made-not-end : {cs : List Call} {x y : Lent} {o : Outcome} → Made cs x y o → o ≡ Outcome.Done → ⊥
made-not-end all_made = other-outcome _ (λ z. omega (arith, z))
made-not-end (goes_on a m) = made-not-end m
made-not-end (ends (goes_on_after e) h) = other-outcome _ (λ z. omega (arith, z))
made-not-end (ends (unwritten e) h) = other-outcome _ (λ z. omega (arith, z))
made-not-end (ends (too_much_lost e) h) = other-outcome _ (λ z. omega (arith, z))
made-not-end (ends (refused e) h) = other-outcome _ (λ z. omega (arith, z))

ran-not-end : {i : Item} {cs : List Call} {x y : Lent} {o : Outcome} → Ran i cs x y o → o ≡ Outcome.Done → ⊥
ran-not-end (instruction m) = made-not-end m
ran-not-end (other s) = stands-not-end s

-- ---- LINE AFTER LINE

pub one_more : (lines : List (List ℕ)) (text : List ℕ) → circuit_calls (lines ++ text ∷ []) ≡ circuit_calls lines ++ line_calls text
unfolding circuit_calls
one_more [] text = append-nil (line_calls text)
one_more (l ∷ lines) text = ap (λ (cs : List Call). line_calls l ++ cs) (one_more lines text) ∙ sym (append_assoc (line_calls l) (circuit_calls lines) (line_calls text))

-- all calls so far, and those of one line more
pub passed-going : {x y : Lent} {o : Outcome} → Passed LineRan x y o → o ≡ Outcome.Going → Whole x y
unfolding circuit_calls after_calls
passed-going begun g = record { lines = []; is = refl; accepted = none }
passed-going {x = x} (then p (line {text = text} r)) g =
    let w = passed-going p refl in
    let a = ran-all r g in
    let cs = circuit_calls w.lines in
    let e = one_more w.lines text in
    record {
      lines = w.lines ++ text ∷ [];
      is = a.is ∙ ap (after_calls (line_calls text)) w.is ∙ sym (after_both cs (line_calls text) x) ∙ ap (λ (l : List Call). after_calls l x) (sym e);
      accepted =
          subst (λ (l : List Call). Accepted l x) (sym e)
          (accepted-both w.accepted (subst (Accepted (line_calls text)) w.is a.accepted));
    }
passed-going (then p (no_line u)) g = absurd (unread-ends u g)

-- A PASS THAT ENDS WITH THE CIRCUIT'S END has made all calls of all lines, and each was accepted
pub passed-done : {x y : Lent} {o : Outcome} → Passed LineRan x y o → o ≡ Outcome.Done → Whole x y
unfolding goes
passed-done begun e = absurd (not_going _ refl (sym e))
passed-done (then p (line r)) e = absurd (ran-not-end r e)
passed-done (then p (no_line u)) e = passed-going p refl

whole-reached : {x y : Lent} (o : Outcome) → Whole x y → UpToRefusal x y o
unfolding after_calls made_of
whole-reached {x = x} o w =
    let cs = circuit_calls w.lines in
    let e = append-nil cs in
    record {
      lines = w.lines;
      reached = cs;
      left = [];
      all = sym e;
      is = w.is ∙ ap (λ (l : List Call). after_calls l x) (sym (ap (λ (l : List Call). made_of true l x) (sym e) ∙ made-past [] w.accepted ∙ e));
      none_left = λ u l. refl;
    }

-- HOWEVER IT ENDS, the calls up to the first refusal were made
pub passed-up-to-refusal : {x y : Lent} {o : Outcome} → Passed LineRan x y o → UpToRefusal x y o
passed-up-to-refusal begun = whole-reached _ (passed-going begun refl)
passed-up-to-refusal {x = x} (then p (line {text = text} r)) =
    let w = passed-going p refl in
    let q = ran-reached r in
    let cs = circuit_calls w.lines in
    record {
      lines = w.lines ++ text ∷ [];
      reached = cs ++ q.reached;
      left = q.left;
      all = one_more w.lines text ∙ ap (λ (l : List Call). cs ++ l) q.all ∙ sym (append_assoc cs q.reached q.left);
      is =
          q.is
          ∙ ap (λ (y : Lent). after_calls (made_of true q.reached y) y) w.is
          ∙ sym (after_both cs (made_of true q.reached (after_calls cs x)) x)
          ∙ ap (λ (l : List Call). after_calls l x) (sym (made-past q.reached w.accepted));
      none_left = q.none_left;
    }
passed-up-to-refusal (then p (no_line u)) = whole-reached _ (passed-going p refl)
