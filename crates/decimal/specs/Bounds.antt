-- What the functions behind `decimal` and `whole` promise: numbers as machine words hold them, at most 2^64 - 1. And where a number's
-- text ends. Assumes nothing.
use Rattle.std.specs.Prelude.{ℕ, ◌≤◌, cond, List, ltb}
use Rattle.decimal.specs.Digits.{digits_at, digits_end, number_from}
use Rattle.decimal.specs.declared.Run.{Run}
use Rattle.decimal.specs.declared.Significand.{Significand}
use Rattle.decimal.specs.declared.Exponent.{Exponent}

abbrev pub largest : ℕ
largest = 0xffff_ffff_ffff_ffff

unfoldable pub capped : ℕ → ℕ
capped n = cond (ltb largest n) largest n

-- the digits at a place, after those of a number
unfoldable pub run_at : List ℕ → ℕ → ℕ → Run
run_at text i before =
    record {
      value = capped (number_from before (digits_at text i));
      large = ltb largest (number_from before (digits_at text i));
      end = digits_end text i;
    }

unfoldable pub capped_significand : Significand → Significand
capped_significand s = record { value = capped s.value; digits = s.digits; after = s.after; end = s.end }

unfoldable pub capped_exponent : Exponent → Exponent
capped_exponent x = record { negative = x.negative; size = capped x.size; end = x.end }

-- a text from `from` to `end` within a text of `size` bytes, if it starts there
pub record Within (from size end : ℕ) : Type 0 where
  pub after : from ≤ end
  pub inside : from ≤ size → end ≤ size
