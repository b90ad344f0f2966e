-- What is lost of the initial weight after the call of an instruction. Assumes nothing.
use Rattle.std.specs.Prelude.{Bool, true, false, cond, ℕ, eqb, Float}
use Rattle.model.specs.Floats.{float, zero_bits, one_bits, plus, minus, times, over, above}
use Rattle.model.specs.Entries.{listed}
use Rattle.model.specs.Store.{keyed_weighed}
use Rattle.model.specs.Sum.{total}
use Rattle.model.specs.Calls.{Call, Kind, branching, turning, moving, looking, kind_of, Lent, front}
use Rattle.model.specs.declared.Lost.{Lost}

-- of the calls that instructions stand for only channels and resets drop and truncate (none stands for `truncate`)
abbrev pub losing : Kind → Bool
losing (branching b) = true
losing turning = false
losing moving = false
losing (looking f) = false

abbrev pub can_lose : Call → Bool
can_lose c = losing (kind_of c)

-- ---- what is lost of the initial weight

-- the total of a sum that numbers 1, 2 and 5 let through; 0 of any other
unfoldable pub weight_of : Lent → Float
weight_of x =
    cond (eqb (front 0 x) 0) (total keyed_weighed (listed x.header.size x.header.count x.words)) (float zero_bits)

-- 0 of a total that is not above 0
unfoldable pub fraction : Float → Float → Float
fraction part whole = cond (above whole (float zero_bits)) (over part whole) (float zero_bits)

-- a part of what is left is lost too
unfoldable pub lost_too : Float → Float → Float
lost_too lost part = plus lost (times (minus (float one_bits) lost) part)

-- what is dropped is a part of the total before the call; what is truncated is one of 1, if the call normalised, and else of that total
unfoldable pub lost_after : Float → Lost → Float → Bool → ℕ → Float
lost_after lost l whole normalised left =
    let after = lost_too lost (fraction l.dropped whole) in
    cond (eqb left 0) (float one_bits) (lost_too after (cond normalised l.truncated (fraction l.truncated whole)))

-- everything, if the fresh sum has no entry
unfoldable pub lost_at_start : ℕ → Float
lost_at_start count = cond (eqb count 0) (float one_bits) (float zero_bits)
