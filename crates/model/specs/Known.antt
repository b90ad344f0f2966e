-- What is known of a header and its words once a call was accepted on them, and stays known whatever calls follow: all that numbers 1, 2 and
-- 5 test but the weights. A call that is told so looks at the weights alone, and gives what it would give otherwise. Assumes nothing.
use Rattle.std.specs.Prelude.{ℕ, ◌≡◌, Bool, true, false, ◌||◌, List, map, eqb}
use Rattle.model.specs.Entries.{strip}
use Rattle.model.specs.Numbers.{first_of, bodies_sound}
use Rattle.model.specs.Calls.{Call, Lent, held, sum_of, shape, zeros_past, gave, step}
use Rattle.model.specs.declared.Answer.{Answer}

pub record Checked (x : Lent) : Type 0 where
  -- neither 1 nor 2 applies
  pub shaped : first_of (shape x) ≡ 0
  -- the slots past the count are 0
  pub zeros : zeros_past x ≡ true
  -- every word of the listed entries but weights and keys is sound
  pub bodies : bodies_sound x.header.size (map strip (sum_of x).entries) ≡ true

-- what a call is told: that much is known, or nothing is
abbrev pub Known : Bool → Lent → Type 0
Known true x = Checked x
Known false x = Unit

-- it is known after a call, if it was known before or the call was accepted
abbrev pub known_after : Bool → ℕ → Bool
known_after known number = known || eqb number 0

-- A CALL THAT WAS TOLD, on header and words x: what it gave is the step of the call, and so much is known of what it left
pub record Stepped (c : Call) (known : Bool) (x : Lent) (r : Answer) (w : List ℕ) : Type 0 where
  pub is : gave r w ≡ step c x
  pub after : Known (known_after known r.number) (held r.header w)
