-- A value that is taken, or why it is not.
use Rattle.std.proofs.Common.{◌≡◌, ℕ, ◌<◌, true, Ok, Err, arith}
use Rattle.std.specs.Prelude.{Float, None, Some}
use Rattle.std.specs.Float.{binary64}
use Rattle.std.specs.Float.Ieee.{of_bits, le}
use Rattle.decimal.specs.declared.answer.DecimalError.{DecimalError}
use Rattle.decimal.specs.declared.answer.Parsed.{Parsed}
use Rattle.options.specs.Arguments.{count_in, count_from, bound_in, bound_from}

module _ (least most n : ℕ) (w : Parsed ℕ) where
  pub no_whole : (error : DecimalError) → w.value ≡ Err error → None ≡ count_from least most n w
  unfolding count_from count_in
  no_whole error e = grind arith

  pub too_small : (value : ℕ) → w.value ≡ Ok value → value < least → None ≡ count_from least most n w
  unfolding count_from count_in
  too_small value e h = grind arith

  pub too_large : (value : ℕ) → w.value ≡ Ok value → most < value → None ≡ count_from least most n w
  unfolding count_from count_in
  too_large value e h = grind arith

pub is_bound : (n : ℕ) (d : Parsed Float) (value : Float) → d.value ≡ Ok value → d.end ≡ n → le (of_bits binary64 0) value ≡ true
    → Some value ≡ bound_from n d
unfolding bound_from bound_in
is_bound n d value e s h = grind arith
