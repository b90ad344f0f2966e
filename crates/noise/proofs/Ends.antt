-- The returns of `renormalise` and `finish`. Assumes nothing.
use mathlib.Core.Path.{◌≡◌, refl, sym, ap, ◌∙◌}
use mathlib.Core.Bool.{Bool, true, false, cond, true≢false}
use mathlib.Core.List.{List}
use Prim.Native.Nat.{ℕ, ◌≤◌, ◌<◌}
use native.Mathlib.Omega.{arith}
use lib.Dec.{ltb}
use lib.Ieee.{Float}
use lib.ListN.{length}
use borrow.Author.Tests.{lt-ltb, le-ltb}
use Rattle.model.specs.Entries.{listed}
use Rattle.model.specs.Store.{keyed_weighed}
use Rattle.model.specs.Sum.{done, refused, and_then, normalised, truncated, finished}
use Rattle.model.specs.declared.Size.{Size}
use Rattle.model.proofs.Entries.{length-listed}
use Rattle.model.specs.Sound.{Packed}
use Rattle.weights.specs.Outcomes.{Normalised, Truncated}
use Rattle.weights.specs.declared.Cut.{Cut}
use Rattle.noise.specs.Finish.{Renormalised, Finished, left_by, number_of, ending}
use Rattle.noise.specs.declared.Refusal.{Refusal}
use Rattle.noise.specs.declared.Refusal.TheVariants.{NoRoom, TotalZero}
use Rattle.std.specs.Prelude.{Result as Ended, Ok, Err}
use Rattle.merging.specs.declared.Progress.{Progress}

-- two constructors are never equal: `cc` shows this first
never : {A : Type 0} → ◌≡◌ {A = ℕ} 0 1 → A
never z = absurd (omega arith)

module _ (s : Size) (p : Progress) (w : List ℕ) where
  pub some-dropped : {r : Bool} {w' : List ℕ} → 0 < p.dropped → Normalised s p.count w r w' → Renormalised s p w r w'
  some-dropped {r} {w'} h n =
      record {
        packed = n.packed;
        result = ap (λ (b : Bool). cond b (normalised keyed_weighed (listed s p.count w)) (done (listed s p.count w))) (lt-ltb 0 p.dropped h) ∙ n.result;
        unchanged = n.unchanged;
      }

  pub none_dropped : p.dropped ≤ 0 → Packed s p.count w → Renormalised s p w true w
  none_dropped h g =
      record {
        packed = g;
        result = ap (λ (b : Bool). cond b (normalised keyed_weighed (listed s p.count w)) (done (listed s p.count w))) (le-ltb 0 p.dropped h);
        unchanged = λ z. refl;
      }

  module _ (cutoff : Float) (g : Packed s p.count w) where
    abbrev Ends : Ended Cut Refusal → List ℕ → Type 0
    Ends r w' = Finished s cutoff p w r w'

    -- there is room, so the list is normalised if anything was dropped, and truncated
    pub with-room : {r : Bool} {w' : List ℕ} → Renormalised s p w r w'
        → finished keyed_weighed s.capacity cutoff p.dropped (listed s p.count w) ≡ and_then (truncated keyed_weighed cutoff) (cond r (done (listed s p.count w')) (refused 9))
    unfolding finished
    with-room n =
        ap (λ (b : Bool). cond b (refused 6) (and_then (truncated keyed_weighed cutoff) (cond (ltb 0 p.dropped) (normalised keyed_weighed (listed s p.count w)) (done (listed s p.count w)))))
        (le-ltb s.capacity (length (listed s p.count w)) (omega (arith, length-listed s p.count w, g.room)))
        ∙ ap (and_then (truncated keyed_weighed cutoff)) n.result

    pub no-room-left : p.full ≡ true → Ends (Err NoRoom) w
    unfolding left_by
    no-room-left f =
        record {
          packed = g;
          full = λ z. refl;
          result = λ z. absurd (true≢false (sym f ∙ z));
          unchanged = λ q e. refl;
        }

    module _ (o : p.full ≡ false) where
      pub ended : {v w' : List ℕ} {r : Cut} → Renormalised s p w true v → Truncated s p.count cutoff v r w' → Ends (Ok r) w'
      unfolding left_by ending and_then
      ended n t =
          record {
            packed = t.packed;
            full = λ z. absurd (true≢false (sym z ∙ o));
            result = λ z. with-room n ∙ t.result;
            unchanged = λ q e. never (cc);
          }

      pub nothing_left : {v : List ℕ} → Renormalised s p w false v → Ends (Err TotalZero) v
      unfolding left_by number_of ending and_then
      nothing_left n =
          record {
            packed = n.packed;
            full = λ z. absurd (true≢false (sym z ∙ o));
            result = λ z. with-room n;
            unchanged = λ q e. n.unchanged refl;
          }
