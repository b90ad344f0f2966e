-- One entry scaled: its weight is its first word, its loss word the second. Assumes nothing.
use mathlib.Core.Path.{◌≡◌, ap, ◌∙◌}
use mathlib.Core.Bool.{true, false}
use mathlib.Core.List.{List}
use Prim.Native.Nat.{ℕ}
use native.Mathlib.Omega.{arith}
use lib.Ieee.{Float}
use lib.ListN.{length, get_or, set}
use Rattle.model.specs.Floats.{float, bits, times}
use Rattle.model.specs.Entries.{entry_len, entry_of}
use Rattle.model.specs.Store.{keyed_weighed, reweighed}
use Rattle.model.specs.declared.Size.{Size}
use Rattle.arms.specs.declared.Shape.{Shape}
use Rattle.entries.specs.Became.{Became}
use Rattle.rebuild.specs.Saved.{with_word}
use Rattle.rebuild.proofs.Words.{put}
use Rattle.spread.specs.Branches.{live_at, scaled_by}

module _ (s : Size) (h : Shape) (keep : Float) (x : List ℕ) (l : length x ≡ entry_len s) where
  pub scaled-live : live_at h (get_or x 1 0) ≡ true → {v : ℕ} → v ≡ bits (times (float (get_or x 0 0)) keep) → Became s (scaled_by h keep) x (set x 0 v)
  unfolding scaled_by entry_of with_word
  scaled-live t {v} e =
      let p = put s 0 v x l (omega arith) in
      record { long = p.long; entry = p.entry ∙ ap (λ (u : ℕ). reweighed keyed_weighed u (entry_of s x)) e ∙ rw t }

  pub scaled-lost : live_at h (get_or x 1 0) ≡ false → Became s (scaled_by h keep) x x
  unfolding scaled_by entry_of
  scaled-lost t = record { long = l; entry = rw t }
