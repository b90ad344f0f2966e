-- The calls on a sum, and how each is judged: what it does to keys, what it shows, and its tests before it acts. Assumes nothing.
use Rattle.std.specs.Prelude.{ℕ, Bool, cond, not, ◌&&◌, ◌||◌, List, [], ◌∷◌, ◌++◌, eqb, leb, Float, length}
use Rattle.model.specs.Entries.{Entry}
use Rattle.model.specs.Sum.{Result, refused}
use Rattle.model.specs.Channels.{Noise, qubits}
use Rattle.model.specs.Gates.{gate_qubits}
use Rattle.model.specs.Numbers.{Test, gives, first_of, some_not_below, both_the_same, rates_sound, entries_sound}
use Rattle.model.specs.declared.Size.{Size}
use Rattle.model.specs.declared.Gate.{Gate}

-- with their arguments besides header and store. An output slice stands for its length
pub data Call : Type 0 where
  noise : Noise → Call
  reset : ℕ → Call
  gate : Gate → Call
  truncate normalise : Call
  table : ℕ → Call
  pick : Float → Call
  sheet : ℕ → Call
  view : ℕ → Call
  page : ℕ → Call

-- ---- what depends on the kind of a call alone goes by these

-- what is merged: the branches of a channel, or the entries that a reset at a qubit makes live
pub data Merging : Type 0 where
  by_noise : Noise → Merging
  by_reset : ℕ → Merging

-- what is shown: words (of a call that shows nothing, none), bytes of text, or the words of an entry, its keys among them
pub data Form : Type 0 where
  as_words as_bytes as_entry : Form

-- what a call does to keys: channels and resets use them, gates leave them stale, others move them with their entries, or only look
pub data Kind : Type 0 where
  branching : Merging → Kind
  turning moving : Kind
  looking : Form → Kind

unfoldable pub form_of : Kind → Form
form_of (branching b) = as_words
form_of turning = as_words
form_of moving = as_words
form_of (looking f) = f

-- ---- how a call is judged

pub record Judged : Type 0 where
  pub kind : Kind
  -- its tests for numbers 3 and 4, on a sum that lists `count` entries
  pub arguments : Size → (count : ℕ) → List Test

unfoldable pub judged : Call → Judged
judged (noise c) =
    record {
      kind = branching (by_noise c);
      arguments = λ s count. gives 3 (some_not_below s.n (qubits c)) ∷ gives 4 (not (rates_sound c)) ∷ [];
    }
judged (reset q) = record { kind = branching (by_reset q); arguments = λ s count. gives 3 (leb s.n q) ∷ [] }
judged (gate g) =
    record { kind = turning; arguments = λ s count. gives 3 (some_not_below s.n (gate_qubits g) || both_the_same g) ∷ [] }
judged truncate = record { kind = moving; arguments = λ s count. [] }
judged normalise = record { kind = moving; arguments = λ s count. [] }
judged (table room) = record { kind = looking as_words; arguments = λ s count. [] }
judged (pick draw) = record { kind = looking as_words; arguments = λ s count. [] }
judged (sheet room) = record { kind = looking as_bytes; arguments = λ s count. [] }
judged (view place) = record { kind = looking as_entry; arguments = λ s count. gives 3 (leb count place) ∷ [] }
judged (page room) = record { kind = looking as_bytes; arguments = λ s count. [] }

unfoldable pub kind_of : Call → Kind
unfolding judged
kind_of c = (judged c).kind

unfoldable pub argument_tests : Call → Size → ℕ → List Test
unfolding judged
argument_tests c s count = (judged c).arguments s count

-- 3 and 4, and then 5. `zeros`: the slots past the count are 0
unfoldable pub tests : Call → Size → Bool → List Entry → List Test
tests c s zeros es = argument_tests c s (length es) ++ gives 5 (not (zeros && entries_sound s es)) ∷ []

-- a value, or the number of the first test that applies
unfoldable pub unless : {A : Type 0} → List Test → Result A → Result A
unless ts r = cond (eqb (first_of ts) 0) r (refused (first_of ts))
