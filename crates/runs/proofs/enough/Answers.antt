use Rattle.std.proofs.Common.{◌≡◌, refl, ℕ, ◌*◌, ◌/◌, ◌<◌, sym}
use mathlib.Core.Bool.{Bool, true, false}
use native.Mathlib.Nat.{le-div_iff_mul-le, lt_of_not-le, not-le_of_lt}
use lib.Dec.{leb}
use borrow.Author.Tests.{le-leb, lt-leb, leb-true, leb-false}

-- the quotient says it too
divided : (room each count : ℕ) → 0 < each → leb count (room / each) ≡ leb (count * each) room
divided room each count h = go (leb count (room / each)) refl
  where
    go : (b : Bool) → leb count (room / each) ≡ b → b ≡ leb (count * each) room
    go true e = sym (le-leb (count * each) room ((le-div_iff_mul-le {k = each} {x = count} {y = room} h).0 (leb-true count (room / each) e)))
    go false e = sym (lt-leb (count * each) room (lt_of_not-le (λ l. not-le_of_lt (leb-false count (room / each) e) ((le-div_iff_mul-le {k = each} {x = count} {y = room} h).1 l))))
