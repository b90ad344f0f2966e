-- One call on a header and the words that are lent to it. Assumes nothing.
use Rattle.std.specs.Prelude.{ℕ, Bool, true, false, cond, not, ◌&&◌, List, [], ◌∷◌, ◌++◌, map, eqb, Float, length, drop}
use Rattle.model.specs.Entries.{Keyed, strip, listed, past_count, pack}
use Rattle.model.specs.Keys.{usual_salts, keyed}
use Rattle.model.specs.Store.{Holding, with_keys, no_loss, begun, above_cutoff, tested_all, how_many}
use Rattle.model.specs.Sum.{Result, done, refused}
use Rattle.model.specs.Numbers.{Test, gives, first_of, size_sound, header_sound, entries_sound, all_zero}
use Rattle.model.specs.Calls.Judged.{Call, Kind, branching, turning, moving, looking, kind_of, unless}
use Rattle.model.specs.Calls.Acts.{Sum, with_list, Outcome, holding, act, performed, split_by}
use Rattle.model.specs.declared.Size.{Size}
use Rattle.model.specs.declared.Header.{Header}
use Rattle.model.specs.declared.Counts.{Counts}
use Rattle.model.specs.declared.Lost.{Lost}
use Rattle.model.specs.declared.Answer.{Answer}

-- ---- the sum that is lent: header and words

pub record Lent : Type 0 where
  pub header : Header
  pub words : List ℕ

abbrev pub held : Header → List ℕ → Lent
held h w = record { header = h; words = w }

abbrev pub engine : Size → Float → Holding Keyed
engine s threshold = with_keys usual_salts s threshold

abbrev pub sum_of : Lent → Sum Keyed
sum_of x =
    record {
      size = x.header.size;
      threshold = x.header.threshold;
      cutoff = x.header.cutoff;
      entries = listed x.header.size x.header.count x.words;
    }

unfoldable pub rebuilt_entries : ℕ → List Keyed → List Keyed
rebuilt_entries n es = map (λ e. keyed usual_salts n (strip e)) es

-- a channel or reset first rebuilds a dirty sum's keys
unfoldable pub rebuilt : Kind → Bool → Sum Keyed → Sum Keyed
rebuilt (branching b) dirty m = with_list m (cond dirty (rebuilt_entries m.size.n m.entries) m.entries)
rebuilt turning dirty m = m
rebuilt moving dirty m = m
rebuilt (looking f) dirty m = m

-- .. and clears the flag; a gate sets it. (A refused call leaves it.)
unfoldable pub dirty_after : Kind → Bool → Bool
dirty_after (branching b) dirty = false
dirty_after turning dirty = true
dirty_after moving dirty = dirty
dirty_after (looking f) dirty = dirty

-- a call that looks changes nothing
unfoldable pub words_after : Kind → Size → List ℕ → List Keyed → List ℕ
words_after (branching b) s w es = pack s es
words_after turning s w es = pack s es
words_after moving s w es = pack s es
words_after (looking f) s w es = w

-- the full comparisons that a call makes, as a value: branch by branch, the places tested
unfoldable pub tested_by : Call → Sum Keyed → List (List ℕ)
tested_by c m =
    let p = split_by (holding engine m) c m.entries in
    tested_all usual_salts m.size m.threshold (above_cutoff m.cutoff) p.branches (begun p.stay)

-- ---- what a call leaves

-- every header is built here ..
abbrev pub header_of : Size → ℕ → Float → Float → Bool → Header
header_of s count threshold cutoff dirty = record { size = s; count = count; threshold = threshold; cutoff = cutoff; dirty = dirty }

abbrev pub header_with : Header → ℕ → Bool → Header
header_with h count dirty = header_of h.size count h.threshold h.cutoff dirty

-- .. and every answer
abbrev pub answer_of : ℕ → Header → Counts → Lost → ℕ → ℕ → Answer
answer_of number h counts lost place length =
    record { number = number; header = h; counts = counts; lost = lost; place = place; length = length }

abbrev pub no_counts : Counts
no_counts = record { merged = 0; stored = 0; dropped = 0; compared = 0 }

-- a header and a number, and 0 for every other number: what a refusal comes with
unfoldable pub plain_answer : Header → ℕ → Answer
plain_answer h n = answer_of n h no_counts no_loss 0 0

unfoldable pub accepted : Header → ℕ → Outcome Keyed → Answer
accepted h compared o =
    answer_of 0 h (record { merged = o.tally.merged; stored = o.tally.stored; dropped = o.tally.dropped; compared = compared })
    o.tally.lost o.place (length o.output)

-- the answer, the store's words, and what it wrote to its output slice, or shows in its view
pub record Left : Type 0 where
  pub answer : Answer
  pub words : List ℕ
  pub output : List ℕ

-- what a call gave that has no output slice
abbrev pub gave : Answer → List ℕ → Left
gave r w = record { answer = r; words = w; output = [] }

abbrev pub refused_left : Lent → ℕ → Left
refused_left x n = gave (plain_answer x.header n) x.words

unfoldable pub left : Call → Lent → Sum Keyed → Result (Outcome Keyed) → Left
left c x m (refused n) = refused_left x n
left c x m (done o) =
    record {
      answer =
          accepted (header_with x.header (length o.tally.entries) (dirty_after (kind_of c) x.header.dirty)) (how_many (tested_by c m)) o;
      words = words_after (kind_of c) x.header.size x.words o.tally.entries;
      output = o.output;
    }

-- ---- the tests in front of every call

-- numbers 1 and 2
abbrev pub shape : Lent → List Test
shape x = gives 1 (not (size_sound x.header.size (length x.words))) ∷ gives 2 (not (header_sound x.header)) ∷ []

-- the slots past the count are 0
abbrev pub zeros_past : Lent → Bool
zeros_past x = all_zero (past_count x.header.size x.header.count x.words)

-- number 5 does not apply
abbrev pub words_sound : Lent → Bool
words_sound x = zeros_past x && entries_sound x.header.size (map strip (listed x.header.size x.header.count x.words))

-- 1, 2, what the call's own tests of its arguments give, 5: the first that is not 0
unfoldable pub front : ℕ → Lent → ℕ
front own x = first_of (shape x ++ gives own (not (eqb own 0)) ∷ gives 5 (not (words_sound x)) ∷ [])

-- ---- a call

-- the sum that it works on
abbrev pub worked : Call → Lent → Sum Keyed
worked c x = rebuilt (kind_of c) x.header.dirty (sum_of x)

-- what it leaves if no test in front of it applies
abbrev pub acted : Call → Lent → Left
acted c x = left c x (worked c x) (act engine c (worked c x))

-- ONE CALL, on any header and any words
unfoldable pub step : Call → Lent → Left
step c x = left c x (worked c x) (unless (shape x) (performed engine c (zeros_past x) (worked c x)))

-- with the number that the tests in front give: that is the refusal, or the call goes on
abbrev pub tested : Lent → ℕ → Left → Left
tested x n through = cond (eqb n 0) through (refused_left x n)

-- an output slice after a call that wrote some words to it: past those it is unchanged
abbrev pub overlaid : List ℕ → List ℕ → List ℕ
overlaid written out = written ++ drop (length written) out
