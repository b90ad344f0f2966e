-- How a channel ends, once its branches are merged. Assumes nothing.
use Rattle.std.specs.Prelude.{ℕ, ◌≡◌, Bool, true, false, cond, List, ltb, Float, Result as Ended, Ok, Err}
use Rattle.model.specs.Entries.{Keyed, listed}
use Rattle.model.specs.Store.{keyed_weighed}
use Rattle.model.specs.Channels.{Noise}
use Rattle.model.specs.Calls.{noise, Lent, Left, sum_of, engine, act, left}
use Rattle.model.specs.Sum.{Result, done, refused, normalised, Cut, cut_to, finished}
use Rattle.model.specs.declared.Size.{Size}
use Rattle.model.specs.Sound.{Packed}
use Rattle.noise.specs.declared.Refusal.{Refusal}
use Rattle.noise.specs.declared.Refusal.TheVariants.{NoRoom, TotalZero}
use Rattle.weights.specs.declared.Cut.{Cut as Kept}
use Rattle.merging.specs.declared.Progress.{Progress}

-- normalised if anything was dropped: w became w', or 9 and no changed word
pub record Renormalised (s : Size) (p : Progress) (w : List ℕ) (r : Bool) (w' : List ℕ) : Type 0 where
  pub packed : Packed s p.count w'
  pub result : cond (ltb 0 p.dropped) (normalised keyed_weighed (listed s p.count w)) (done (listed s p.count w)) ≡ cond r (done (listed s p.count w')) (refused 9)
  pub unchanged : r ≡ false → w' ≡ w

-- a refusal's number
unfoldable pub number_of : Refusal → ℕ
number_of NoRoom = 6
number_of TotalZero = 9

-- the entries that are listed after an ending
unfoldable pub left_by : Progress → Ended Kept Refusal → ℕ
left_by p (Ok k) = k.left
left_by p (Err r) = p.count

-- the result that an ending stands for
unfoldable pub ending : Ended Kept Refusal → List Keyed → Result (Cut Keyed)
ending (Ok k) es = done (cut_to keyed_weighed k.taken es)
ending (Err r) es = refused (number_of r)

-- w became w'; a refusal changes no word, and says so if a branch found no room
pub record Finished (s : Size) (cutoff : Float) (p : Progress) (w : List ℕ) (r : Ended Kept Refusal) (w' : List ℕ) : Type 0 where
  pub packed : Packed s (left_by p r) w'
  pub full : p.full ≡ true → r ≡ Err NoRoom
  pub result : p.full ≡ false → finished keyed_weighed s.capacity cutoff p.dropped (listed s p.count w) ≡ ending r (listed s (left_by p r) w')
  pub unchanged : (q : Refusal) → r ≡ Err q → w' ≡ w

-- ---- a channel

-- what it leaves that works on the entries with the keys they have, whatever the flag says
abbrev pub acted_ready : Noise → Lent → Left
acted_ready c x = left (noise c) x (sum_of x) (act engine (noise c) (sum_of x))
