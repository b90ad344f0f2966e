-- What the words of a call may show. Assumes nothing.
use mathlib.Core.Path.{◌≡◌, refl}
use mathlib.Core.Bool.{Bool, true, false, cond}
use mathlib.Core.List.{List}
use Prim.Native.Nat.{ℕ, ◌≤◌}
use native.Mathlib.Omega.{arith}
use lib.Dec.{ltb}
use borrow.Author.Tests.{ltb-false}
use Rattle.perform.specs.Encoding.{kind_in, first_in, shown_words, room_in, shows_words}
use Rattle.perform.specs.Records.{number_words, record_words}
use Rattle.perform.specs.Said.{ShowsBy, ShowsWithin}
use Rattle.perform.specs.declared.Look.{Look}
use Rattle.perform.specs.declared.Look.TheVariants.{Table, Pick, View}
use Rattle.perform.specs.declared.Call.TheVariants as Call

-- a record that can show what the words may show has room for what is shown
pub within : (l : Look) (w : List ℕ) (n : ℕ) → ShowsBy (Call.Look l) w → number_words ≤ n → (shows_words w ≡ true → record_words ≤ n) → ShowsWithin l n
within (Table room) w n s h g = (s.0, g s.1)
within (Pick draw) w n s h g = h
within (View place) w n s h g = g s

-- a table and a view show words
pub table-shows : (w : List ℕ) → kind_in w ≡ 11 → shows_words w ≡ true
unfolding shows_words
table-shows w e = rw e

pub view-shows : (w : List ℕ) → kind_in w ≡ 14 → shows_words w ≡ true
unfolding shows_words
view-shows w e = rw e

-- a table's room is in the record
pub room_small : (w : List ℕ) → room_in w ≤ shown_words
unfolding room_in
room_small w = go (ltb shown_words (first_in w)) refl
  where
    go : (b : Bool) → ltb shown_words (first_in w) ≡ b → cond b shown_words (first_in w) ≤ shown_words
    go true e = omega arith
    go false e = ltb-false shown_words (first_in w) e
