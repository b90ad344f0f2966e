-- How far a refused call outgrew its room. Assumes nothing.
use Rattle.std.specs.Prelude.{Bool, cond, ◌||◌, Option, Some, None, is_some, List, ℕ, zero, suc, ◌+◌, ◌*◌, ◌-◌, ◌^◌, eqb, ltb, leb, Float, length}
use Rattle.model.specs.Floats.{float, one_bits, plus, above}
use Rattle.model.specs.Entries.{entry_len}
use Rattle.model.specs.Numbers.{max_qubits, max_coefficients, max_capacity}
use Rattle.model.specs.Calls.{Call, Lent, held, header_of, step}
use Rattle.model.specs.declared.Size.{Size}
use Rattle.model.specs.declared.Header.{Header}
use Rattle.model.specs.declared.Answer.{Answer}
use Rattle.calls.specs.Stores.{laid}
use Rattle.calls.specs.declared.outgrown.Asked.{Asked}
use Rattle.calls.specs.declared.outgrown.Asked.TheVariants.{Exactly, AtMost}
use Rattle.calls.specs.declared.outgrown.Outgrown.{Outgrown}

-- ---- the call on a copy

abbrev pub with_capacity : ℕ → Header → Header
with_capacity capacity h = header_of (record { n = h.size.n; k = h.size.k; capacity = capacity }) h.count h.threshold h.cutoff h.dirty

abbrev pub with_cutoff : Float → Header → Header
with_cutoff cutoff h = header_of h.size h.count h.threshold cutoff h.dirty

abbrev pub answer_on : Call → Header → List ℕ → Answer
answer_on c h w = (step c (held h w)).answer

abbrev pub accepts : Answer → Bool
accepts a = eqb a.number 0

-- ---- entries

unfoldable pub largest_room : Size → ℕ
largest_room s = cond (leb s.n max_qubits) (cond (leb s.k max_coefficients) (max_capacity * entry_len s) 0) 0

unfoldable pub capped_sum : ℕ → ℕ → ℕ
capped_sum a b = let largest = 2 ^ 64 - 1 in cond (leb (a + b) largest) (a + b) largest

-- by the answer of a call that stores what is like no entry: the entries that were there, and those stored
unfoldable pub count_of : ℕ → Answer → Option Asked
count_of count a = cond (accepts a) (Some (Exactly (capped_sum count a.counts.stored))) None

-- by the answer of one that drops it instead: at most the entries that were there, and those dropped
unfoldable pub bound_of : ℕ → Answer → Option Asked
bound_of count a = cond (accepts a) (Some (AtMost (capped_sum count a.counts.dropped))) None

-- the call with room for 256 entries, if a scratch of `room` words has that
unfoldable pub counted : Call → Lent → ℕ → Option Asked
counted c x room =
    let most = largest_room x.header.size in
    cond (ltb room most || ltb most (length x.words)) None
    (count_of x.header.count (answer_on c (with_capacity max_capacity x.header) (laid most x.words)))

-- the call with the largest cutoff
unfoldable pub bounded : Call → Lent → Option Asked
bounded c x = bound_of x.header.count (answer_on c (with_cutoff (float 0x7fef_ffff_ffff_ffff) x.header) x.words)

-- the first, or else the second
unfoldable pub entries_asked : Call → Lent → ℕ → Option Asked
entries_asked c x room = let a = counted c x room in cond (is_some a) a (bounded c x)

-- ---- cutoffs

-- the larger of it and 2^-60
unfoldable pub first_cutoff : Float → Float
first_cutoff cutoff = let least = float 0x3c30_0000_0000_0000 in cond (above cutoff least) cutoff least

-- the first of `left` cutoffs, each twice the one before, with which the call is accepted; none if none up to 1 is
unfoldable pub fitting : Call → Lent → ℕ → Float → Option Float
fitting c x zero cutoff = None
fitting c x (suc left) cutoff =
    cond (above cutoff (float one_bits)) None
    (cond (accepts (answer_on c (with_cutoff cutoff x.header) x.words)) (Some cutoff) (fitting c x left (plus cutoff cutoff)))

-- the first, and doubled 64 times at most
unfoldable pub fitting_cutoff : Call → Lent → Option Float
fitting_cutoff c x = fitting c x 65 (first_cutoff x.header.cutoff)

-- ---- both

abbrev pub outgrown : Option Asked → Option Float → Outgrown
outgrown entries cutoff = record { entries = entries; cutoff = cutoff }

-- worked out in a scratch of `room` words
unfoldable pub outgrown_by : Call → Lent → ℕ → Outgrown
outgrown_by c x room =
    cond (ltb room (length x.words)) (outgrown None None) (outgrown (entries_asked c x room) (fitting_cutoff c x))
