-- One step of the walk over stored keys. From place i on, the rest of the walk gives what is left of the whole walk's answer. Assumes nothing.
use Rattle.std.specs.Prelude.{Some, None}
use mathlib.Core.Path.{◌≡◌, refl, ◌∙◌, sym}
use mathlib.Core.Bool.{Bool, true, false, cond}
use mathlib.Core.List.{List, [], ◌∷◌}
use Prim.Native.Nat.{ℕ, suc, ◌+◌, ◌<◌, ◌≤◌}
use native.Mathlib.Nat.{zero-add, add-zero}
use native.Mathlib.Numerals.{add-one}
use native.Mathlib.Omega.{arith}
use lib.Dec.{eqb}
use lib.Ieee.{Float}
use lib.ListN.{length, drop, get_or, drop_of_length-le}
use lib.Seq.{drop-cons}
use borrow.Author.Tests.{eq-eqb, ne_eqb}
use Rattle.model.specs.Entries.{Keyed}
use Rattle.model.specs.Keys.{stored_key}
use Rattle.model.specs.Likeness.{alike}
use Rattle.model.specs.Store.{Walked, walk}
use Rattle.model.specs.declared.Size.{Size}
use Rattle.seeking.specs.Walk.{Searched, Walking}

-- ---- the walk over any list

-- what the walk gives where the first entry has the key or not, and is alike or not; `later` is the walk over the others
abbrev steps : Bool → Bool → ℕ → Walked → Walked
steps key like i later =
    cond key
    (cond like (record { found = Some i; tested = i ∷ [] }) (record { found = later.found; tested = i ∷ later.tested }))
    later

module _ (s : Size) (threshold : Float) (b : Keyed) where
  -- what is found is a place that was walked over
  pub found_below : (i : ℕ) (es : List Keyed) (p : ℕ) → (walk s threshold b i es).found ≡ Some p → p < i + length es
  unfolding walk
  found_below i [] p h = let z : ◌≡◌ {A = ℕ} 0 1 = cc in absurd (omega arith)
  found_below i (e ∷ es) p h =
      go (eqb (stored_key e) (stored_key b)) (alike s threshold e.entry.body b.entry.body) (walk s threshold b (suc i) es) (found_below (suc i) es p) h
    where
      go : (key like : Bool) (later : Walked) → (later.found ≡ Some p → p < suc i + length es) → (steps key like i later).found ≡ Some p → p < i + suc (length es)
      go true true later r q = let e : i ≡ p = cc in omega arith
      go true false later r q = omega (arith, r q)
      go false like later r q = omega (arith, r q)

  -- an entry is tested at most once
  pub tested-few : (i : ℕ) (es : List Keyed) → length (walk s threshold b i es).tested ≤ length es
  unfolding walk
  tested-few i [] = omega arith
  tested-few i (e ∷ es) =
      go (eqb (stored_key e) (stored_key b)) (alike s threshold e.entry.body b.entry.body) (walk s threshold b (suc i) es) (tested-few (suc i) es)
    where
      go : (key like : Bool) (later : Walked) → length later.tested ≤ length es → length (steps key like i later).tested ≤ suc (length es)
      go true true later r = omega arith
      go true false later r = omega arith
      go false like later r = omega arith

-- ---- the walk as a loop makes it

module _ (s : Size) (threshold : Float) (b : Keyed) (es : List Keyed) where
  pub start : Walking s threshold b es 0 0
  start = record { within = omega arith; few = omega arith; counted = zero-add _; same = refl }

  module _ (compared i : ℕ) (h : Walking s threshold b es compared i) where
    -- at the end nothing is left
    pub ended : length es ≤ i → Searched s threshold b es (record { found = None; compared = compared })
    unfolding walk
    ended l =
        let none : drop i es ≡ [] = drop_of_length-le es {i = i} l in
        record { found = rw none at h.same; tested = sym (add-zero compared) ∙ rw none at h.counted }

    -- e is the entry at place i
    module _ (l : i < length es) (e : Keyed) (q : get_or es i e ≡ e) where
      step : walk s threshold b i (drop i es)
          ≡ steps (eqb (stored_key e) (stored_key b)) (alike s threshold e.entry.body b.entry.body) i (walk s threshold b (i + 1) (drop (i + 1) es))
      unfolding walk
      step =
          let f : drop i es ≡ e ∷ drop (i + 1) es = drop-cons es i e l ∙ rw (q, add-one i) in
          rw (f, add-one i)

      -- an entry with another key is passed
      pub other_key : (stored_key e ≡ stored_key b → ⊥) → Walking s threshold b es compared (i + 1)
      other_key f =
          record {
            within = omega arith;
            few = omega arith;
            counted = rw (step, ne_eqb _ _ f) at h.counted;
            same = rw (step, ne_eqb _ _ f) at h.same;
          }

      module _ (k : stored_key e ≡ stored_key b) where
        -- an entry with the key that is unlike is tested
        pub unlike : alike s threshold e.entry.body b.entry.body ≡ false → Walking s threshold b es (compared + 1) (i + 1)
        unlike f =
            record {
              within = omega arith;
              few = omega arith;
              counted = omega (arith, rw (step, eq-eqb _ _ k, f) at h.counted);
              same = rw (step, eq-eqb _ _ k, f) at h.same;
            }

        -- the first entry with the key that is alike ends the walk
        pub hit : alike s threshold e.entry.body b.entry.body ≡ true → Searched s threshold b es (record { found = Some i; compared = compared + 1 })
        hit f = record { found = rw (step, eq-eqb _ _ k, f) at h.same; tested = rw (step, eq-eqb _ _ k, f) at h.counted }
