-- What `normalise` and `truncate` leave of a sum that the tests in front let through. Assumes nothing.
use mathlib.Core.Path.{◌≡◌, refl, sym, ap, ◌∙◌}
use mathlib.Core.Bool.{true, false}
use mathlib.Core.List.{List, []}
use Prim.Native.Nat.{ℕ}
use lib.Ieee.{Float}
use Rattle.model.specs.Floats.{float, zero_bits}
use Rattle.model.specs.Entries.{Keyed, listed}
use Rattle.model.specs.Store.{keyed_weighed, tested_all, how_many}
use Rattle.model.specs.Sum.{done, refused, map_result, cut_to}
use Rattle.model.specs.Numbers.{first_of}
use Rattle.model.specs.Calls.{Call, normalise, truncate, Sum, moving, Lent, sum_of, changed_to, cut_down, engine, argument_tests, act, kind_of, rebuilt, split_as, split_by, tested_by, dirty_after, words_after, header_with, answer_of, no_counts, plain_answer, accepted, gave, refused_left, left, acted}
use Rattle.model.specs.Sound.{Packed}
use Rattle.model.proofs.Entries.{length-listed}
use Rattle.model.proofs.Packed.{packed-is}
use Rattle.model.specs.declared.Header.{Header}
use Rattle.model.specs.declared.Lost.{Lost}
use Rattle.model.specs.declared.Answer.{Answer}
use Rattle.weights.specs.declared.Cut.{Cut}
use Rattle.weights.specs.Outcomes.{Normalised, Truncated}

-- a call that compares nothing, and moves entries with their keys
record Moves (c : Call) : Type 0 where
  kind : kind_of c ≡ moving
  no-comparison : (m : Sum Keyed) → tested_by c m ≡ []

normalises : Moves normalise
unfolding kind_of tested_by split_by split_as tested_all
normalises = record { kind = refl; no-comparison = λ m. refl }

truncates : Moves truncate
unfolding kind_of tested_by split_by split_as tested_all
truncates = record { kind = refl; no-comparison = λ m. refl }

-- so much weight was taken
abbrev pub cut_loss : Float → Lost
cut_loss t = record { dropped = float zero_bits; truncated = t }

-- .. and so many entries are left
abbrev moved_to : Header → ℕ → Float → Answer
moved_to h r t = answer_of 0 (header_with h r h.dirty) no_counts (cut_loss t) 0 0

module _ (c : Call) (m : Moves c) (x : Lent) where
  at-work : acted c x ≡ left c x (sum_of x) (act engine c (sum_of x))
  unfolding rebuilt
  at-work = rw m.kind

  -- 9
  refusal : (n : ℕ) → act engine c (sum_of x) ≡ refused n → acted c x ≡ refused_left x n
  unfolding left
  refusal n a = at-work ∙ ap (left c x (sum_of x)) a

  -- 0: the entries that w' lists are those of the definition
  acceptance : (r : ℕ) (t : Float) (w' : List ℕ) → Packed x.header.size r w'
      → act engine c (sum_of x) ≡ done (changed_to (cut_down (cut_to keyed_weighed t (listed x.header.size r w'))))
      → acted c x ≡ gave (moved_to x.header r t) w'
  unfolding left accepted dirty_after words_after how_many
  acceptance r t w' p a =
      at-work
      ∙ ap (left c x (sum_of x)) a
      ∙ rw (m.kind, m.no-comparison (sum_of x), length-listed x.header.size r w', ← packed-is x.header.size r w' p)

module _ (x : Lent) where
  -- neither has arguments to test
  pub normalise-own : 0 ≡ first_of (argument_tests normalise x.header.size x.header.count)
  unfolding argument_tests first_of
  normalise-own = refl

  pub truncate-own : 0 ≡ first_of (argument_tests truncate x.header.size x.header.count)
  unfolding argument_tests first_of
  truncate-own = refl

  module _ {w' : List ℕ} where
    pub normalise-9 : Normalised x.header.size x.header.count x.words false w' → acted normalise x ≡ gave (plain_answer x.header 9) w'
    unfolding act map_result
    normalise-9 n = refusal normalise normalises x 9 (rw n.result) ∙ ap (gave (plain_answer x.header 9)) (sym (n.unchanged refl))

    pub normalise-0 : Normalised x.header.size x.header.count x.words true w' → acted normalise x ≡ gave (plain_answer x.header 0) w'
    unfolding act map_result plain_answer
    normalise-0 n = acceptance normalise normalises x x.header.count (float zero_bits) w' n.packed (rw n.result)

    pub truncate-0 : {r : Cut} → Truncated x.header.size x.header.count x.header.cutoff x.words r w'
        → acted truncate x ≡ gave (moved_to x.header r.left r.taken) w'
    unfolding act map_result
    truncate-0 {r} t = acceptance truncate truncates x r.left r.taken w' t.packed (rw t.result)
