-- A walk that begins where the table says: no entry before that place has the key. Assumes nothing.
use Rattle.std.specs.Prelude.{None}
use mathlib.Core.Path.{◌≡◌, sym, ◌∙◌}
use mathlib.Core.List.{List}
use Prim.Native.Nat.{ℕ, zero, suc, ◌≤◌, ◌<◌}
use native.Mathlib.Numerals.{add-one}
use native.Mathlib.Omega.{arith}
use lib.Ieee.{Float}
use lib.ListN.{length, get_or}
use Rattle.model.specs.Entries.{Keyed}
use Rattle.model.specs.Keys.{stored_key}
use Rattle.model.specs.declared.Size.{Size}
use Rattle.seeking.specs.Noted.{gathered, slot_of, Noted}
use Rattle.seeking.specs.Walk.{Searched, Walking}
use Rattle.seeking.proofs.Walk.{start, ended, other_key}
use Rattle.seeking.proofs.Noting.{stands-past, length-gathered, gathered-at}

module _ (s : Size) (threshold : Float) (b : Keyed) (count : ℕ) (at : ℕ → Keyed) where
  abbrev es : List Keyed
  es = gathered count at

  pub listed_below : (i : ℕ) → i < count → i < length es
  listed_below i h = omega (arith, length-gathered count at)

  skipped : (i : ℕ) → i ≤ count → ((j : ℕ) → j < i → stored_key (at j) ≡ stored_key b → ⊥) → Walking s threshold b es 0 i
  skipped zero h f = start s threshold b es
  skipped (suc i) h f =
      rw (sym (add-one i))
      (other_key s threshold b es 0 i (skipped i (omega arith) (λ j l. f j (omega arith))) (listed_below i (omega arith)) (at i) (gathered-at count at i (at i) (omega arith)) (f i (omega arith)))

  module _ (keys firsts : List ℕ) (n : Noted count at keys firsts) (key : ℕ) (k : key ≡ stored_key b) where
    none_before : (j : ℕ) → j < count → j < get_or firsts (slot_of key) 0 → stored_key (at j) ≡ stored_key b → ⊥
    none_before j h l e = omega (arith, stands-past at n key j h (e ∙ sym k))

    -- the walk begins there
    pub begins : get_or firsts (slot_of key) 0 < count → Walking s threshold b es 0 (get_or firsts (slot_of key) 0)
    begins h = skipped (get_or firsts (slot_of key) 0) (omega arith) (λ j l. none_before j (omega arith) l)

    -- or is over
    pub nowhere : count ≤ get_or firsts (slot_of key) 0 → Searched s threshold b es (record { found = None; compared = 0 })
    nowhere h = ended s threshold b es 0 count (skipped count (omega arith) (λ j l. none_before j l (omega arith))) (omega (arith, length-gathered count at))
