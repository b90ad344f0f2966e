-- The entries scaled and their branches merged. Assumes nothing.
use Rattle.std.specs.Prelude.{ℕ, ◌≤◌, ◌<◌, ◌≡◌, true, false, List, map, Float, length, take}
use Rattle.model.specs.Lists.{joined}
use Rattle.model.specs.Floats.{float, one_bits, zero_bits, minus}
use Rattle.model.specs.Entries.{Keyed, listed}
use Rattle.model.specs.Keys.{usual_salts}
use Rattle.model.specs.Store.{Tally, Split, begun, merge_all, tested_all, how_many, above_cutoff}
use Rattle.model.specs.Channels.{folded_to}
use Rattle.model.specs.Calls.{engine}
use Rattle.model.specs.declared.Size.{Size}
use Rattle.model.specs.Sound.{Packed}
use Rattle.arms.specs.Arms.{arms_list}
use Rattle.arms.specs.declared.Arms.{Arms}
use Rattle.merging.specs.Progress.{tally_of, unweighed}
use Rattle.spread.specs.Branches.{scaled_by, branches_by}
use Rattle.merging.specs.declared.Progress.{Progress}

-- what is left of a live entry
abbrev pub keep_by : Arms → Float
keep_by r = minus (float one_bits) (folded_to (float zero_bits) (arms_list r))

-- the branches of the entries es, and these scaled
abbrev pub split_for : Size → Float → Arms → List Keyed → Split Keyed
split_for s threshold r es = record { stay = map (scaled_by r.shape (keep_by r)) es; branches = joined (map (branches_by s threshold r) es) }

abbrev pub merging : Size → Float → Float → Split Keyed → Tally Keyed
merging s threshold cutoff p = merge_all (engine s threshold) (above_cutoff cutoff) p.branches (begun p.stay)

-- the entries es were scaled and their branches merged, which left p and w
pub record Spread (s : Size) (threshold cutoff : Float) (r : Arms) (es : List Keyed) (p : Progress) (w : List ℕ) : Type 0 where
  pub packed : Packed s p.count w
  pub grows : length es ≤ p.count
  pub front : map unweighed (take (length es) (listed s p.count w)) ≡ map unweighed es
  pub tally : p.full ≡ false → tally_of s p w ≡ merging s threshold cutoff (split_for s threshold r es)
  pub compared : p.full ≡ false → p.compared ≡ how_many (tested_all usual_salts s threshold (above_cutoff cutoff) (split_for s threshold r es).branches (begun (split_for s threshold r es).stay))
  pub overflow : p.full ≡ true → s.capacity < length (merging s threshold cutoff (split_for s threshold r es)).entries
