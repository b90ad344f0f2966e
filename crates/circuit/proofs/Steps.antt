-- What a step through the targets finds lies within the line, and after a target it has gone on.
use mathlib.Core.Path.{◌≡◌, refl, sym, ap, ◌∙◌, subst}
use mathlib.Core.Bool.{Bool, true, false, not, ◌&&◌}
use mathlib.Core.List.{List}
use Rattle.std.specs.Prelude.{Result, Ok, Err}
use Prim.Native.Nat.{ℕ, ◌<◌, ◌≤◌}
use native.Mathlib.Omega.{arith}
use lib.Dec.{eqb, leb, ltb}
use lib.ListN.{length}
use Rattle.std.proofs.Common.{◌≢◌}
use Rattle.std.proofs.lemmas.Bool.{cond_both}
use borrow.Author.Tests.{ltb-true, leb-true, leb-false, le-leb}
use Rattle.decimal.specs.declared.answer.DecimalError.{DecimalError}
use Rattle.decimal.specs.declared.answer.DecimalError.TheVariants.{NoNumber, TooLarge, Infinite}
use Rattle.decimal.specs.declared.answer.Parsed.{Parsed}
use Rattle.circuit.specs.Places.{Stepped, Onward}
use Rattle.circuit.specs.Runs.{is_of, run_end, is_end}
use Rattle.circuit.specs.Targets.{sees, bad, qubit_of, qubit_in, qubit_at, qubit_from, next_qubit, pair_of, pair_with, second_at, pair_after, next_pair, target_at}
use Rattle.circuit.specs.declared.lines.Fault.{Fault}
use Rattle.circuit.specs.declared.lines.Fault.TheVariants.{Qubit, Range, Half, Same}
use Rattle.circuit.specs.declared.lines.Seen.{Seen}
use Rattle.circuit.specs.declared.lines.Seen.TheVariants.{End, At, Bad}
use Rattle.circuit.specs.declared.lines.Target.{Target}
use Rattle.circuit.specs.declared.runs.Run.TheVariants.{Blanks, Word}
use Rattle.circuit.proofs.RunEnds.{run_past, run-within}

-- ---- by what is seen

second_is : {p q a b : ℕ} → At a b ≡ At p q → q ≡ b
second_is e = cc

module _ {n at from to : ℕ} where
  bad-step : (f : Fault) → at ≤ from → from ≤ to → to ≤ n → Stepped n at (bad f from to)
  bad-step f a b w = record { word = b; onward = a; within = w; qubits = λ p q h. cc }

  end_step : at ≤ from → from ≤ to → to ≤ n → Stepped n at (sees End from to)
  end_step a b w = record { word = b; onward = a; within = w; qubits = λ p q h. cc }

  at-step : (p q : ℕ) → p < 64 → q < 64 → at ≤ from → from < to → to ≤ n → Stepped n at (sees (At p q) from to)
  at-step p q i j a b w =
      record {
        word = omega arith;
        onward = a;
        within = w;
        qubits = λ x y h. let u : x ≡ p = cc in let v = second_is h in (omega arith, omega arith, b, w);
      }

-- in a longer line, from an earlier place on
wider : {n m at to : ℕ} {r : Target} → Stepped n at r → n ≤ m → to ≤ at → Stepped m to r
wider s h k = record { word = s.word; onward = omega (arith, s.onward); within = omega (arith, s.within); qubits = λ p q e. omega (arith, s.qubits p q e) }

-- ---- a qubit

qubit-of : (w : Result ℕ DecimalError) (from to : ℕ) → from < to → Stepped to from (qubit_of w from to)
unfolding qubit_of
qubit-of (Ok v) from to h =
    cond_both (ltb v 64) (sees (At v v) from to) (bad Range from to) (Stepped to from)
    (λ e. let l = ltb-true v 64 e in at-step v v l l (omega arith) h (omega arith))
    (λ e. bad-step Range (omega arith) (omega arith) (omega arith))
qubit-of (Err NoNumber) from to h = bad-step Qubit (omega arith) (omega arith) (omega arith)
qubit-of (Err TooLarge) from to h = bad-step Range (omega arith) (omega arith) (omega arith)
qubit-of (Err Infinite) from to h = bad-step Qubit (omega arith) (omega arith) (omega arith)

qubit-in : (c : Parsed ℕ) (from to : ℕ) → from ≤ to → Stepped to from (qubit_in c from to)
unfolding qubit_in
qubit-in c from to h =
    cond_both (eqb c.end to && not (eqb to from)) (qubit_of c.value from to) (bad Qubit from to) (Stepped to from)
    (λ e. let d : to ≢ from = grind arith in qubit-of c.value from to (omega arith))
    (λ e. bad-step Qubit (omega arith) h (omega arith))

module _ (text : List ℕ) where
  qubit-at : (from : ℕ) → from ≤ length text → Stepped (length text) from (qubit_at text from)
  unfolding qubit_at
  qubit-at from h =
      wider (qubit-in _ from (run_end (is_of Word) text from) (omega arith)) (run-within (is_of Word) text from h) (omega arith)

  qubit-from : (from : ℕ) → from ≤ length text → Stepped (length text) from (qubit_from text from)
  unfolding qubit_from
  qubit-from from h =
      cond_both (is_end text from) (sees End from from) (qubit_at text from) (Stepped (length text) from)
      (λ e. end_step (omega arith) (omega arith) h)
      (λ e. qubit-at from h)

  next-qubit : (at : ℕ) → at ≤ length text → Stepped (length text) at (next_qubit text at)
  unfolding next_qubit
  next-qubit at h =
      wider (qubit-from (run_end (is_of Blanks) text at) (run-within (is_of Blanks) text at h)) (omega arith) (omega arith)

  pub qubit-ends : (at : ℕ) (t : Target) → t ≡ next_qubit text at → at ≤ length text → t.to ≤ length text
  qubit-ends at t e h = subst (λ (x : Target). x.to ≤ length text) (sym e) (next-qubit at h).within

-- ---- a pair

pair-of : (p q from to : ℕ) → p < 64 → q < 64 → from < to → Stepped to from (pair_of p q from to)
unfolding pair_of
pair-of p q from to i j h =
    cond_both (eqb p q) (bad Same from to) (sees (At p q) from to) (Stepped to from)
    (λ e. bad-step Same (omega arith) (omega arith) (omega arith))
    (λ e. at-step p q i j (omega arith) h (omega arith))

pair-with : (n p from at : ℕ) (b : Target) (s : Seen) → b.seen ≡ s → Stepped n at b → p < 64 → from < at → at ≤ n → Stepped n from (pair_with p from at b s)
unfolding pair_with
pair-with n p from at b End e h i j k = bad-step Half (omega arith) (omega arith) k
pair-with n p from at b (Bad f) e h i j k = bad-step f (omega (arith, h.onward)) h.word h.within
pair-with n p from at b (At q r) e h i j k =
    let t = h.qubits q r e in
    wider (pair-of p q from b.to i t.0 (omega (arith, h.onward))) h.within (omega arith)

module _ (text : List ℕ) where
  pair-after : (at : ℕ) (a : Target) (s : Seen) → a.seen ≡ s → Stepped (length text) at a → Stepped (length text) at (pair_after text a s)
  unfolding pair_after second_at
  pair-after at a End e h = h
  pair-after at a (Bad f) e h = h
  pair-after at a (At p q) e h =
      let t = h.qubits p q e in
      wider (pair-with (length text) p a.from a.to (next_qubit text a.to) (next_qubit text a.to).seen refl (next-qubit text a.to h.within) t.0 t.2 h.within)
      (omega arith) h.onward

  -- what is found from a place in the line on
  pub target-stepped : (pairs : Bool) (at : ℕ) → at ≤ length text → Stepped (length text) at (target_at pairs text at)
  unfolding target_at next_pair
  target-stepped true at h = pair-after at (next_qubit text at) (next_qubit text at).seen refl (next-qubit text at h)
  target-stepped false at h = next-qubit text at h

-- ---- past the line

module _ (text : List ℕ) (at : ℕ) (h : length text ≤ at) where
  qubit-past : sees End at at ≡ next_qubit text at
  unfolding next_qubit qubit_from is_end
  qubit-past =
      let e : sees End at at ≡ qubit_from text at = simp (le-leb (length text) at h) in
      e ∙ ap (qubit_from text) (run_past (is_of Blanks) text at h)

  -- there is no target
  pub target_past : (pairs : Bool) → sees End at at ≡ target_at pairs text at
  unfolding target_at next_pair pair_after
  target_past true = ap (λ (a : Target). pair_after text a a.seen) qubit-past
  target_past false = qubit-past

  pub past-onward : Onward (length text) at (sees End at at)
  past-onward = record { word = omega arith; onward = omega arith; within = λ k. k; qubits = λ p q e. cc }

-- what is found from any place on
pub target-onward : (text : List ℕ) (pairs : Bool) (at : ℕ) → Onward (length text) at (target_at pairs text at)
target-onward text pairs at = go (leb at (length text)) refl
  where
    go : (t : Bool) → leb at (length text) ≡ t → Onward (length text) at (target_at pairs text at)
    go true e =
        let s = target-stepped text pairs at (leb-true at (length text) e) in
        record { word = s.word; onward = s.onward; within = λ k. s.within; qubits = s.qubits }
    go false e =
        let l = leb-false at (length text) e in
        subst (λ (t : Target). Onward (length text) at t) (target_past text at (omega arith) pairs) (past-onward text at (omega arith))
