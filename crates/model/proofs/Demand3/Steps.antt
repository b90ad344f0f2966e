-- ONE CALL on a good state: it gives what the list kept without keys gives, and leaves a good state of what that list becomes. Assumes nothing.
use Prim.Native.Nat.{ℕ}
use mathlib.Core.Path.{◌≡◌, refl, sym, ap, ap₂, subst, ◌∙◌}
use mathlib.Core.Bool.{Bool, true}
use mathlib.Core.List.{List, []}
use lib.ListN.{length}
use Rattle.model.specs.Entries.{Entry, Keyed}
use Rattle.model.specs.Floats.{float, bits, zero_bits}
use Rattle.model.specs.Sum.{Result, done, refused}
use Rattle.model.specs.Numbers.{Test}
use Rattle.model.specs.Keyless.{keyless, keyless_step}
use Rattle.model.specs.Calls.{Call, noise, reset, gate, truncate, normalise, table, pick, sheet, view, page, Form, as_words, as_bytes, as_entry, form_of, Sum, Outcome, tests, unless, bare, act, performed, held, engine, kind_of, dirty_after, Left, plain_answer, header_with, accepted, left, shape, zeros_past, step}
use Rattle.model.proofs.Steps.{unless-none, bare-rebuilt, size-rebuilt}
use Rattle.model.specs.Demand3.{next, keyless_next, bare_form, without_keys, shown_by, keyless_shown, comparisons, flag_left, flag_by}
use Rattle.model.proofs.Demand3.Lists.{map_same}
use Rattle.model.proofs.Yields.{Yields, given, yields-unless}
use Rattle.model.proofs.Held.{Held, act-held}
use Rattle.model.proofs.Demand3.States.{state, Good, listed-is, zeros-is, shape_is}
use Rattle.model.proofs.Demand3.Acts.{stored, worked, SameOutcome, Same, both-done, both-refused, same-unless, acts-same}

-- what a call left, where the list kept without keys gave r
pub record Stepped (c : Call) (m : Sum Entry) (dirty : Bool) (l : Left) (r : Result (Outcome Entry)) : Type 0 where
  pub after : List Keyed
  pub next-is : next l ≡ state (keyless_next m r) (flag_by c dirty r) after
  pub good : Good (keyless_next m r) (flag_by c dirty r) after
  pub shown : shown_by c l ≡ keyless_shown r
  pub compared : l.answer.counts.compared ≡ comparisons c m r

-- without keys, no words are no words
bare-nothing : (f : Form) → bare_form f [] ≡ []
unfolding bare_form
bare-nothing as_words = refl
bare-nothing as_bytes = refl
bare-nothing as_entry = refl

nothing-shown : (c : Call) → without_keys c [] ≡ []
unfolding without_keys
nothing-shown c = bare-nothing (form_of (kind_of c))

-- the flag that the engine leaves is document 01's
flag_is : (c : Call) (dirty : Bool) → dirty_after (kind_of c) dirty ≡ flag_left c dirty
unfolding dirty_after kind_of flag_left
flag_is (noise c) dirty = refl
flag_is (reset q) dirty = refl
flag_is (gate f) dirty = refl
flag_is truncate dirty = refl
flag_is normalise dirty = refl
flag_is (table room) dirty = refl
flag_is (pick draw) dirty = refl
flag_is (sheet room) dirty = refl
flag_is (view place) dirty = refl
flag_is (page room) dirty = refl

module _ (c : Call) (m : Sum Entry) (dirty : Bool) (es : List Keyed) (g : Good m dirty es) where
  abbrev sum : Sum Keyed
  sum = worked c m dirty es

  -- ---- the tests

  step_is : step c (state m dirty es) ≡ left c (state m dirty es) sum (performed engine c true sum)
  unfolding step
  step_is =
      let x = state m dirty es in
      ap (λ (l : List Keyed). left c x (worked c m dirty l) (unless (shape x) (performed engine c (zeros_past x) (worked c m dirty l)))) (listed-is m dirty es g)
      ∙ ap (left c x sum)
      (unless-none (shape x) (performed engine c (zeros_past x) sum) (shape_is m dirty es g) ∙ ap (λ (p : Bool). performed engine c p sum) (zeros-is m dirty es g))

  tests-are : tests c sum.size true (bare engine sum) ≡ tests c m.size true (bare keyless m)
  tests-are =
      ap₂ (λ s l. tests c s true l) (size-rebuilt (kind_of c) dirty (stored m es))
      (bare-rebuilt (kind_of c) dirty (stored m es) ∙ g.content ∙ sym (map_same m.entries))

  performed-same : Same c m dirty es (performed engine c true sum) (keyless_step c m)
  unfolding performed keyless_step
  performed-same =
      let us = tests c m.size true (bare keyless m) in
      subst (λ (ts : List Test). Same c m dirty es (unless ts (act engine c sum)) (unless us (act keyless c m))) (sym tests-are)
      (same-unless us (λ h. acts-same m dirty es g c true (bare keyless m) h))

  performed-held : Yields (λ o. Held m.size o.tally.entries) (keyless_step c m)
  unfolding performed keyless_step tests
  performed-held = yields-unless _ _ (λ e. act-held c m _ _ e g.held)

  -- ---- what is left

  done-left : (o : Outcome Keyed) (p : Outcome Entry) → SameOutcome c m dirty es o p → Held m.size p.tally.entries → Stepped c m dirty (left c (state m dirty es) sum (done o)) (done p)
  unfolding left accepted flag_by comparisons
  done-left o p s h =
      record {
        after = o.tally.entries;
        next-is =
            ap₂ (λ (d : Bool) (w : List ℕ). held (header_with (state m dirty es).header (length o.tally.entries) d) w)
            (flag_is c dirty) s.words;
        good = record { size = g.size; bounds = g.bounds; held = h; content = s.content; keys = s.keys };
        shown = rw (s.merged, s.stored, s.dropped, s.lost, s.place, s.output);
        compared = s.compared;
      }

  -- a refusal leaves all as it was
  refused-left : (n : ℕ) → Stepped c m dirty (left c (state m dirty es) sum (refused n)) (refused n)
  unfolding left flag_by comparisons plain_answer
  refused-left n =
      record {
        after = es;
        next-is = refl;
        good = g;
        shown = ap (λ (w : List ℕ). record { number = n; merged = 0; stored = 0; dropped = 0; dropped_weight = bits (float zero_bits); truncated_weight = bits (float zero_bits); place = 0; output = w }) (nothing-shown c);
        compared = refl;
      }

  is-left : {a : Result (Outcome Keyed)} {r : Result (Outcome Entry)} → Same c m dirty es a r → Yields (λ o. Held m.size o.tally.entries) r
      → Stepped c m dirty (left c (state m dirty es) sum a) r
  is-left (both-done {o = o} {p = p} s) (given h) = done-left o p s h
  is-left (both-refused {n = n}) h = refused-left n

  -- ONE CALL
  pub stepped : Stepped c m dirty (step c (state m dirty es)) (keyless_step c m)
  stepped = subst (λ (l : Left). Stepped c m dirty l (keyless_step c m)) (sym step_is) (is-left performed-same performed-held)
