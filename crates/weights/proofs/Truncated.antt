-- One law for each answer of `truncate_entries`. Assumes nothing.
use mathlib.Core.Path.{◌≡◌, sym, ap, ◌∙◌}
use mathlib.Core.Bool.{Bool, true, false, cond}
use mathlib.Core.List.{List}
use Prim.Native.Nat.{ℕ}
use native.Mathlib.Omega.{arith}
use lib.Ieee.{Float}
use lib.ListN.{length}
use borrow.Author.Tests.{eq-eqb, ne_eqb}
use Rattle.model.specs.Floats.{finite_from_zero}
use Rattle.model.specs.Entries.{Keyed, listed}
use Rattle.model.specs.Store.{keyed_weighed}
use Rattle.model.specs.Sum.{done, refused, map_result, normalised, kept, trimmed, taken_by, cut_to, truncated}
use Rattle.model.specs.declared.Size.{Size}
use Rattle.model.proofs.Entries.{length-listed}
use Rattle.entries.specs.Holds.{Holds}
use Rattle.weights.specs.Outcomes.{Normalised, Truncated}
use Rattle.weights.specs.declared.Cut.{Cut}
use Rattle.weights.proofs.Lists.{none-went}
use Rattle.weights.proofs.Kept.{stays}
use Rattle.weights.proofs.AboveZero.{kept-divides}

-- what is kept of a store's entries
abbrev stay : Size → ℕ → Float → List ℕ → List Keyed
stay s count cutoff w = kept keyed_weighed cutoff (listed s count w)

module _ (s : Size) (count : ℕ) (cutoff : Float) (w : List ℕ) {r : Cut} {v : List ℕ}
    (k : Holds s r.left (stay s count cutoff w) v) (t : r.taken ≡ taken_by keyed_weighed cutoff (listed s count w)) where
  how-many : length (stay s count cutoff w) ≡ r.left
  how-many = ap length (sym k.entries) ∙ length-listed s r.left v

  -- with the weights that it took
  cut : {l : List Keyed} → trimmed keyed_weighed cutoff (listed s count w) ≡ done l → truncated keyed_weighed cutoff (listed s count w) ≡ done (cut_to keyed_weighed r.taken l)
  unfolding truncated map_result
  cut e = rw (e, t)

  -- all are left
  pub all_left : r.left ≡ count → Truncated s count cutoff w r v
  unfolding trimmed kept
  all_left e =
      let l = listed s count w in
      let f : length (stay s count cutoff w) ≡ length l = how-many ∙ e ∙ sym (length-listed s count w) in
      record {
        packed = k.packed;
        result = cut (rw (eq-eqb (length (stay s count cutoff w)) (length l) f) (ap done (sym (none-went (stays cutoff) l f) ∙ sym k.entries)));
      }

  -- some went, and the others were normalised
  pub some-went : {b : Bool} {w' : List ℕ} → (r.left ≡ count → ⊥) → finite_from_zero cutoff ≡ true → Normalised s r.left v b w' → Truncated s count cutoff w r w'
  unfolding trimmed
  some-went {b} {w'} h c n =
      let l = listed s count w in
      let f : length (stay s count cutoff w) ≡ length l → ⊥ = λ e. h (sym how-many ∙ e ∙ length-listed s count w) in
      record {
        packed = n.packed;
        result = cut (rw (ne_eqb (length (stay s count cutoff w)) (length l) f) (divided b (rw k.entries at n.result)));
      }
    where
      divided : (o : Bool) → normalised keyed_weighed (stay s count cutoff w) ≡ cond o (done (listed s r.left w')) (refused 9) → normalised keyed_weighed (stay s count cutoff w) ≡ done (listed s r.left w')
      divided true e = e
      divided false e =
          let q = kept-divides keyed_weighed cutoff c (listed s count w) in
          let z : ◌≡◌ {A = ℕ} 0 1 = cc in
          absurd (omega arith)
