-- One law for each answer of `normalise_entries`. Assumes nothing.
use mathlib.Core.Path.{◌≡◌, refl}
use mathlib.Core.Bool.{true, false, true≢false}
use mathlib.Core.List.{List, map}
use Prim.Native.Nat.{ℕ}
use native.Mathlib.Omega.{arith}
use lib.Ieee.{eq}
use Rattle.model.specs.Lists.{is_empty, groups}
use Rattle.model.specs.Floats.{float, zero_bits}
use Rattle.model.specs.Entries.{listed}
use Rattle.model.specs.Store.{keyed_weighed}
use Rattle.model.specs.Sum.{total, divided_by, normalised}
use Rattle.model.specs.declared.Size.{Size}
use Rattle.model.proofs.Entries.{length-listed}
use Rattle.model.specs.Sound.{Packed}
use Rattle.entries.specs.Holds.{Holds}
use Rattle.weights.specs.Outcomes.{Normalised}
use Rattle.weights.proofs.Lists.{not-empty}

module _ {s : Size} {count : ℕ} {w : List ℕ} (p : Packed s count w) where
  -- an empty list
  pub none : count ≡ 0 → Normalised s count w true w
  unfolding normalised listed groups is_empty
  none e = record { packed = p; result = rw e; unchanged = λ f. absurd (true≢false f) }

  module _ (h : count ≡ 0 → ⊥) where
    some : is_empty (listed s count w) ≡ false
    some = not-empty (listed s count w) (omega (arith, length-listed s count w))

    -- 9
    pub no-total : eq (total keyed_weighed (listed s count w)) (float zero_bits) ≡ true → Normalised s count w false w
    unfolding normalised
    no-total z = record { packed = p; result = rw (some, z); unchanged = λ f. refl }

    pub divided : {w' : List ℕ} → eq (total keyed_weighed (listed s count w)) (float zero_bits) ≡ false
        → Holds s count (map (divided_by keyed_weighed (total keyed_weighed (listed s count w))) (listed s count w)) w' → Normalised s count w true w'
    unfolding normalised
    divided z d = record { packed = d.packed; result = rw (some, z, d.entries); unchanged = λ f. absurd (true≢false f) }
