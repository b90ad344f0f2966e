-- Numbers of at most 19 digits, and numbers of many bytes. Assumes nothing.
use Rattle.std.specs.Prelude.{◌≡◌, ℕ, ◌+◌, ◌*◌, ◌^◌, ◌<◌, ◌≤◌, List, [], ◌∷◌, false, length}
use Rattle.std.specs.Float.{binary64}
use Rattle.std.specs.Float.Ieee.{round, to_bits}

-- a number below this has at most 19 digits, and fits in a word
abbrev pub digit_limit : ℕ
digit_limit = 10 ^ 19

-- the number that bytes stand for, the lowest first
unfoldable pub value_of : List ℕ → ℕ
value_of [] = 0
value_of (b ∷ bs) = b + 256 * value_of bs

-- a number below this is doubled at most 2200 times
unfoldable pub limit : ℕ
limit = 2 ^ 2200

-- a number that has room for its double's product with one below 2^56
pub record Large (a : List ℕ) : Type 0 where
  pub small : value_of a < limit
  pub room : value_of a * 2 ^ 57 < 256 ^ length a

-- a fraction a / b below 2^53, and room for a number
pub record Fraction (a b room : List ℕ) : Type 0 where
  pub dividend : length a ≡ length b
  pub place : length room ≡ length b
  pub wide : value_of b * 2 ^ 56 < 256 ^ length b
  pub positive : 0 < value_of b
  pub small : value_of a < value_of b * 2 ^ 53

-- w is v × f^k: the last such that is at most n
pub record Climbed (n v f k w : ℕ) : Type 0 where
  pub multiplied : w ≡ v * f ^ k
  pub within : w ≤ n
  pub last : n < w * f
  pub few : k ≤ 2200

-- w is v, doubled k times: the first so doubled that is above n
pub record Scaled (n v k w : ℕ) : Type 0 where
  pub doubled : w ≡ v * 2 ^ k
  pub above : n < w
  pub first : 0 < k → w ≤ n * 2

-- n = num × 2^(1074 - lift) and v = den × 2^53, and room for a number; lifted only where n / v is 1 at least, so that 53 digits are left
pub record Lifted (n v room : List ℕ) (lift : ℕ) : Type 0 where
  pub dividend : Large n
  pub divisor : value_of v * 2 ^ 57 < 256 ^ length v
  pub same : length v ≡ length n
  pub place : length room ≡ length n
  pub positive : 0 < value_of v
  pub most : lift ≤ 1074
  pub normal : 0 < lift → value_of v ≤ value_of n

-- room for n = m × 10^up × 64^count and v = 10^down × 2^53, of which v is not the larger where 64^count is below 2^1074
pub record Sized (n v room : List ℕ) (m up down count : ℕ) : Type 0 where
  pub same : length v ≡ length n
  pub place : length room ≡ length n
  pub small : m * 10 ^ up * 64 ^ count < limit
  pub dividend : m * 10 ^ up * 64 ^ count * 2 ^ 57 < 256 ^ length n
  pub divisor : 10 ^ down * 2 ^ 53 * 2 ^ 57 < 256 ^ length n
  pub most : count ≤ 179
  pub normal : count < 179 → 10 ^ down * 2 ^ 53 ≤ m * 10 ^ up * 64 ^ count

-- the bits of the f64 nearest to num / den, whatever these are, of n = num × 2^1074 and v = den × 2^53
pub record IsRounded (n v bits : ℕ) : Type 0 where
  pub is : (num den : ℕ) → 0 < den → n ≡ num * 2 ^ 1074 → v ≡ den * 2 ^ 53 → bits ≡ to_bits binary64 (round binary64 false num den)
